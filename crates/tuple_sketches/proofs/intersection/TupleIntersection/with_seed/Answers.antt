use Rattle.std.proofs.Common.{ap}
use Rattle.tuple_sketches.proofs.Streams.{intersection-made}
use Rattle.tuple_sketches.proofs.intersection.TupleIntersection.with_seed.Goals as goal

pub returns-clause-given : goal.returns-clause-given
returns-clause-given g c = λ combines. intersection-made combines c.in_ok-state.state (ap (λ i. i.result) c.in_ok-state.ensures.made)
