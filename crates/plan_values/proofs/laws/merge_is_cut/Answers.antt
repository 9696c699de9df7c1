use Rattle.plan_values.proofs.MergePlans.{merge_plan}
use Rattle.plan_values.proofs.laws.merge_is_cut.Goals as goal

pub returns : goal.returns
returns g c = λ f is seed lg_k start p merge accepts. merge_plan f is seed p accepts lg_k start merge
