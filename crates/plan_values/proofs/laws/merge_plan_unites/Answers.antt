use Rattle.plan_values.proofs.AddedValues.{merges_unite}
use Rattle.plan_values.proofs.laws.merge_plan_unites.Goals as goal

pub returns : goal.returns
returns g c = λ lg_k start p merge. merges_unite _ lg_k start p merge.below_it
