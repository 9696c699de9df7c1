use Rattle.keys_sketches.specs.Shards.{AreRead}
use Rattle.keys_sketches.specs.Sources.{Continues}
use Rattle.distinct_inputs.specs.Images.{remaining_images}
use Rattle.distinct_inputs.specs.Seeds.{AreSeeded}
use Rattle.distinct_commands.proofs.combine.all_sketches.Given as goal

-- the sketches so far are of the default seed, and are those of the images read so far
abbrev pub invariant-loop : goal.invariant-loop
invariant-loop g l = record {
  seeded : AreSeeded l.seed l.sketches.items;
  read : Continues (remaining_images g.S.Source.Read.remaining g.S.Sources.texts l.fn.images) (remaining_images g.S.Source.Read.remaining g.S.Sources.texts l.images) (λ taken. AreRead l.seed taken l.sketches.items);
}
