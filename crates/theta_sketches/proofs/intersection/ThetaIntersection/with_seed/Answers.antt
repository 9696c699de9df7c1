use Rattle.std.proofs.Common.{ap}
use Rattle.theta_sketches.proofs.Streams.{intersection-made}
use Rattle.theta_sketches.proofs.intersection.ThetaIntersection.with_seed.Goals as goal

pub returns-clause-given : goal.returns-clause-given
returns-clause-given g c = intersection-made c.in_ok-state.state (ap (λ i. i.result) c.in_ok-state.ensures.made)
