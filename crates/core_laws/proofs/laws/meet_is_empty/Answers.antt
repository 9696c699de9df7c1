use Rattle.core_laws.proofs.operators.EmptyMeets.{becomes_disjoint, empty_meet}
use Rattle.core_laws.proofs.laws.meet_is_empty.Goals as goal

pub returns-clause-only_if : goal.returns-clause-only_if
returns-clause-only_if g c = λ m. becomes_disjoint m.key m.merges m.keeps

pub returns-clause-if_so : goal.returns-clause-if_so
returns-clause-if_so g c = λ m. empty_meet m.key m.merges m.keeps
