use Rattle.theta_sketches.proofs.Streams.{gives-nothing}
use Rattle.theta_sketches.proofs.sketch.ThetaSketch.clone.Goals as goal

pub returns-clause-given : goal.returns-clause-given
returns-clause-given g c = rw (← c.self.view_is) (gives-nothing c.self.inside.state c.in_ok-clone.field-0 c.in_ok-clone.ensures.empty c.in_ok-clone.ensures.copied)
