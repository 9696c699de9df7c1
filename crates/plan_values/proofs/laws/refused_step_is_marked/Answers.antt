use Rattle.plan_values.proofs.RefusedSteps.{step_leaves_mark}
use Rattle.plan_values.proofs.laws.refused_step_is_marked.Goals as goal

pub returns : goal.returns
returns g c = λ f lawful k start steps i d high lt refused. step_leaves_mark f lawful k start steps i d high lt refused
