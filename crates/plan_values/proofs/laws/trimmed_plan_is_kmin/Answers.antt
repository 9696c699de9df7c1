use Rattle.plan_values.proofs.ThetaPlans.{value_trimmed}
use Rattle.plan_values.proofs.laws.trimmed_plan_is_kmin.Goals as goal

pub returns : goal.returns
returns g c = value_trimmed
