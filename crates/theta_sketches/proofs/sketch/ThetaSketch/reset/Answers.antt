use Rattle.theta_sketches.proofs.Streams.{sketch-reset}
use Rattle.theta_sketches.proofs.sketch.ThetaSketch.reset.Goals as goal

pub returns-clause-given : goal.returns-clause-given
returns-clause-given g c = rw (← c.self.view_is) (λ lg_k start seed hashes is. sketch-reset lg_k start seed c.self.inside.state c.reset.new.self hashes c.reset.ensures.map is)
