use Rattle.std.proofs.Common.{arith}
use Rattle.distinct.proofs.DefaultSeed.{default_seed}
use Rattle.distinct.proofs.run.Goals as goal

pub run_request-requires-clause-seeded : goal.run_request-requires-clause-seeded
run_request-requires-clause-seeded c = λ e. absurd (omega (arith, e, default_seed))
