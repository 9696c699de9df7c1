use Rattle.core_streams.proofs.Calls.{on_both, on_err}
use Rattle.theta_sketches.proofs.Streams.{gives-hashes, stops-given}
use Rattle.theta_sketches.proofs.sketch.ThetaSketch.update_hashes.Goals as goal

pub returns-clause-given : goal.returns-clause-given
returns-clause-given g c = rw (← c.self.view_is) (on_both c.insert_hashes.result (gives-hashes c.args.hashes.now c.self.inside.state c.insert_hashes.new.self) c.insert_hashes.ensures.after c.insert_hashes.ensures.empty)

pub returns-clause-err_given : goal.returns-clause-err_given
returns-clause-err_given g c = rw (← c.self.view_is) (on_err c.insert_hashes.result (stops-given c.args.hashes.now c.self.inside.state c.insert_hashes.new.self) c.insert_hashes.ensures.err)
