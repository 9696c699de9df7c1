use Rattle.core_laws.proofs.operators.SharedKeys.{has_meet, meet_has, permuted_keys}
use Rattle.core_laws.proofs.laws.meet_keys.Goals as goal

pub returns-clause-only_if : goal.returns-clause-only_if
returns-clause-only_if g c = λ m. has_meet m.key m.merges m.keeps

pub returns-clause-if_so : goal.returns-clause-if_so
returns-clause-if_so g c = λ m. meet_has m.key m.merges m.keeps

pub returns-clause-any_order : goal.returns-clause-any_order
returns-clause-any_order g c = λ m. permuted_keys m.key m.merges m.keeps
