use Rattle.tuple_sketches.proofs.Streams.{gives-nothing}
use Rattle.tuple_sketches.proofs.sketch.TupleSketch.clone.Goals as goal

pub returns-clause-given : goal.returns-clause-given
returns-clause-given g c = gives-nothing c.args.self.now.state c.in_ok-state.state c.in_ok-state.ensures.empty c.in_ok-state.ensures.copied
