use Rattle.std.proofs.Common.{◌≡◌, take, drop, None}
use Rattle.keys_sketches.specs.Meeting.{met_of, meet_refusal}
use Rattle.keys_sketches.specs.Shards.{values_of_sketches}
use Rattle.keys_sketches.proofs.images.intersection.Given as goal

-- the result is the intersection of the sketches so far, and the seed is unchanged; the refusal of all sketches is that of those that are left
abbrev pub invariant-loop-sketch : goal.invariant-loop-sketch
invariant-loop-sketch g l = record {
  value : l.so_far.result ≡ met_of (values_of_sketches (take l.sketch-index l.sketches));
  same_seed : l.so_far.seed_hash ≡ l.initial.so_far.seed_hash;
  refusal : meet_refusal l.seed None l.sketches ≡ meet_refusal l.seed l.so_far.result (drop l.sketch-index l.sketches);
}
