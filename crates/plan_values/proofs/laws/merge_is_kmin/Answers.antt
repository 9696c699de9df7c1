use Rattle.plan_values.proofs.ThetaPlans.{merge_kept}
use Rattle.plan_values.proofs.laws.merge_is_kmin.Goals as goal

pub returns : goal.returns
returns g c = λ seed lg_k start p merge accepts. merge_kept seed p accepts lg_k start merge
