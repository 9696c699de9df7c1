use Rattle.core_streams.proofs.Calls.{on_ok, on_err}
use Rattle.tuple_sketches.proofs.Streams.{sketch-trimmed, gives-nothing}
use Rattle.tuple_sketches.proofs.sketch.TupleSketch.trim.Goals as goal

pub returns-clause-given : goal.returns-clause-given
returns-clause-given g c = on_ok c.trim.result (λ after lg_k start seed given is. sketch-trimmed lg_k start seed c.args.self.now.state c.trim.new.self given c.trim.ensures.same_emptiness after is) c.trim.ensures.after

pub returns-clause-err_given : goal.returns-clause-err_given
returns-clause-err_given g c = on_err c.trim.result (gives-nothing c.args.self.now.state c.trim.new.self c.trim.ensures.same_emptiness) c.trim.ensures.err
