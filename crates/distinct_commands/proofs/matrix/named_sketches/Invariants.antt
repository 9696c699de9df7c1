use Rattle.std.proofs.Common.{◌≡◌, false, map}
use Rattle.keys_sketches.specs.Shards.{AreRead}
use Rattle.keys_sketches.specs.Sources.{Continues}
use Rattle.distinct_inputs.specs.Images.{remaining_images}
use Rattle.distinct_inputs.specs.Lists.{names_of}
use Rattle.distinct_inputs.specs.Seeds.{AreSeeded}
use Rattle.distinct_commands.specs.Matrix.{named_of, sketches_in}
use Rattle.distinct_commands.proofs.Pairs.{NamesSoFar}
use Rattle.distinct_commands.proofs.matrix.named_sketches.Given as goal

-- the sketches so far are of the seed, are those of the images read so far, and have the names of their files if each is one image
abbrev pub invariant-loop : goal.invariant-loop
invariant-loop g l = record {
  seeded : AreSeeded l.seed (sketches_in (map named_of l.named.items));
  read : Continues (remaining_images g.S.Source.Read.remaining g.S.Sources.texts l.fn.images) (remaining_images g.S.Source.Read.remaining g.S.Sources.texts l.images)
      (λ taken. AreRead l.seed taken (sketches_in (map named_of l.named.items)));
  whole : l.hex ≡ false → l.images.hex ≡ false;
  names : l.hex ≡ false → NamesSoFar (names_of l.fn.images.inputs.left.now) (names_of l.images.inputs.left.now) (map named_of l.named.items);
}
