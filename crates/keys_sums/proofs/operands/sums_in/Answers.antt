use Rattle.sketch_base.specs.Seed.{seed_hash}
use Rattle.keys_sums.proofs.RefusedSums.{sums_seed}
use Rattle.keys_sums.proofs.operands.sums_in.Goals as goal

pub returns-clause-seeded : goal.returns-clause-seeded
returns-clause-seeded g c = sums_seed _ (seed_hash c.args.seed) c.in_ok-sketch.sketch c.in_ok-sketch.ensures.reads
