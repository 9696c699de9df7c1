use Rattle.core_streams.proofs.Calls.{on_ok, on_err}
use Rattle.theta_sketches.proofs.Streams.{sketch-trimmed, gives-nothing}
use Rattle.theta_sketches.proofs.sketch.ThetaSketch.trim.Goals as goal

pub returns-clause-given : goal.returns-clause-given
returns-clause-given g c = rw (← c.self.view_is) (on_ok c.trim.result (λ after lg_k start seed hashes is. sketch-trimmed lg_k start seed c.self.inside.state c.trim.new.self hashes c.trim.ensures.same_emptiness after is) c.trim.ensures.after)

pub returns-clause-err_given : goal.returns-clause-err_given
returns-clause-err_given g c = rw (← c.self.view_is) (on_err c.trim.result (gives-nothing c.self.inside.state c.trim.new.self c.trim.ensures.same_emptiness) c.trim.ensures.err)
