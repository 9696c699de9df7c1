use Rattle.std.proofs.Common.{◌≡◌}
use Rattle.std.specs.List.{AllByRecursion}
use Rattle.sketch_base.specs.Seed.{seed_hash}
use Rattle.keys_sketches.specs.Sources.{Continues}
use Rattle.keys_sums.specs.Images.{AreReadSums}
use Rattle.keys_sums.proofs.operands.all_sums.Given as goal

-- the sketches so far are of the seed, and are those of the images read so far
abbrev pub invariant-loop : goal.invariant-loop
invariant-loop g l = record {
  parted : Continues (g.S.Sources.texts l.fn.images) (g.S.Sources.texts l.images) (λ taken. Unit {0});
  read : Continues (g.S.Sources.texts l.fn.images) (g.S.Sources.texts l.images) (λ taken. AreReadSums l.seed taken l.sketches.items);
  seeded : AllByRecursion (λ s. s.seed_hash ≡ seed_hash l.seed) l.sketches.items;
}
