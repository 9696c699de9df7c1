use Rattle.core_laws.proofs.operators.SummariesAlike.{folds_commute, folds_associate, folds_idempotent}
use Rattle.core_laws.proofs.laws.folds_merge_alike.Goals as goal

pub returns-clause-commute : goal.returns-clause-commute
returns-clause-commute g c = λ key merges refuses. folds_commute key merges refuses

pub returns-clause-associate : goal.returns-clause-associate
returns-clause-associate g c = λ m refuses. folds_associate m.key m.merges refuses m.keeps

pub returns-clause-idempotent : goal.returns-clause-idempotent
returns-clause-idempotent g c = λ key merges refuses. folds_idempotent key merges refuses
