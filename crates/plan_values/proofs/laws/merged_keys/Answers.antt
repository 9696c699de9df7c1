use Rattle.plan_values.proofs.MergedSums.{fold_added, added_fold, no_fold}
use Rattle.plan_values.proofs.laws.merged_keys.Goals as goal

pub returns-clause-only_if : goal.returns-clause-only_if
returns-clause-only_if g c = λ creates updates combines h p carried unites some. fold_added creates updates combines h p carried unites some

pub returns-clause-if_so : goal.returns-clause-if_so
returns-clause-if_so g c = λ creates updates combines h p carried unites there. added_fold creates updates combines h p carried unites there

pub returns-clause-uncarried : goal.returns-clause-uncarried
returns-clause-uncarried g c = λ creates updates combines h p uncarried unites. no_fold creates updates combines h p uncarried unites
