use Rattle.plan_runs.specs.Answer.{memory_line, no_memory}
use Rattle.plan_runs.proofs.answering.RunEndings.{puts_for}
use Rattle.plan_runs.proofs.runs.run.Goals as goal

pub returns-in_default-clause-answered : goal.returns-in_default-clause-answered
returns-in_default-clause-answered g c = puts_for g.row.A.Denot (g.R.Read.remaining c.args.reader.now) memory_line 1 c.put.result (g.W.Write.contents c.args.writer.now) (g.W.Write.contents c.put.new.writer) (λ input e. no_memory) c.put.ensures

pub returns-in-Err-Memory-clause-answered : goal.returns-in-Err-Memory-clause-answered
returns-in-Err-Memory-clause-answered g c = puts_for g.row.A.Denot (g.R.Read.remaining c.args.reader.now) memory_line 1 c.put-in-Err-Memory.result (g.W.Write.contents c.args.writer.now) (g.W.Write.contents c.put-in-Err-Memory.new.writer) (λ input e. no_memory) c.put-in-Err-Memory.ensures

pub returns-clause-answered : goal.returns-clause-answered
returns-clause-answered g c = puts_for g.row.A.Denot (g.R.Read.remaining c.args.reader.now) memory_line 1 c.put-in-Err.result (g.W.Write.contents c.args.writer.now) (g.W.Write.contents c.put-in-Err.new.writer) (λ input e. no_memory) c.put-in-Err.ensures
