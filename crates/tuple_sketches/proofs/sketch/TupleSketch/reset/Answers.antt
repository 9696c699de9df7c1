use Rattle.tuple_sketches.proofs.Streams.{sketch-reset}
use Rattle.tuple_sketches.proofs.sketch.TupleSketch.reset.Goals as goal

pub returns-clause-given : goal.returns-clause-given
returns-clause-given g c = λ lg_k start seed given is. sketch-reset lg_k start seed c.args.self.now.state c.reset.new.self given c.reset.ensures.map is
