use Rattle.plan_evaluation.proofs.evaluation.NodeAnswers.{compacted_leaf, kept_answer}
use Rattle.plan_evaluation.proofs.evaluate.into_compact.Goals as goal

pub returns-in-Mutable-clause-ok : goal.returns-in-Mutable-clause-ok
returns-in-Mutable-clause-ok g c = let f = g.F.SketchFamily in compacted_leaf (f.rules c.args.family.now).key f.state f.listed c.args.evaluated c.in-Mutable.sketch c.compact.result c.args.ordered c.in-Mutable.is c.compact.ensures.ok

pub returns-in-Compact-clause-ok : goal.returns-in-Compact-clause-ok
returns-in-Compact-clause-ok g c = let f = g.F.SketchFamily in kept_answer (f.rules c.args.family.now).key f.state f.listed c.args.evaluated c.in-Compact.sketch c.args.ordered c.in-Compact.is
