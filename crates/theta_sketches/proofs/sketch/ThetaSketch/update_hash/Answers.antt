use Rattle.core_streams.proofs.Calls.{on_both, on_both_err}
use Rattle.theta_sketches.proofs.Streams.{gives-hash, gives-nothing}
use Rattle.theta_sketches.proofs.sketch.ThetaSketch.update_hash.Goals as goal

pub returns-clause-given : goal.returns-clause-given
returns-clause-given g c = rw (← c.self.view_is) (on_both c.insert_hash.result (gives-hash c.args.hash c.self.inside.state c.insert_hash.new.self) c.insert_hash.ensures.nonempty c.insert_hash.ensures.after)

pub returns-clause-err_given : goal.returns-clause-err_given
returns-clause-err_given g c = rw (← c.self.view_is) (on_both_err c.insert_hash.result (gives-nothing c.self.inside.state c.insert_hash.new.self) c.insert_hash.ensures.err_empty c.insert_hash.ensures.err)
