use Rattle.keys_sketches.proofs.Waiting.{none_waits, ready_none}
use Rattle.keys_sketches.proofs.batches.Batch.new.Goals as goal

pub returns-clause-united : goal.returns-clause-united
returns-clause-united g c = λ seed settings images has. none_waits (g.U.SketchUnion.has_united seed settings) (g.U.SketchUnion.reads seed) images c.args.union c.new.result.items has c.new.ensures.items

pub returns-clause-ready : goal.returns-clause-ready
returns-clause-ready g c = λ seed settings ready. ready_none (g.U.SketchUnion.is_ready seed settings) (g.U.SketchUnion.reads seed) c.args.union c.new.result.items ready c.new.ensures.items
