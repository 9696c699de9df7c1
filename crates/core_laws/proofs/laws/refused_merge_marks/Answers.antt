use Rattle.core_laws.proofs.operators.Marks.{join_marks, meet_marks}
use Rattle.core_laws.proofs.laws.refused_merge_marks.Goals as goal

pub returns-clause-joined : goal.returns-clause-joined
returns-clause-joined g c = λ m refuses whole arriving q x y one two refused. join_marks m.key m.merges refuses m.keeps whole arriving q x y one two refused

pub returns-clause-met : goal.returns-clause-met
returns-clause-met g c = λ m refuses whole arriving q x y one two refused. meet_marks m.key m.merges refuses m.keeps whole arriving q x y one two refused
