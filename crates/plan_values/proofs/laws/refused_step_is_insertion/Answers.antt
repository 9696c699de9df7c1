use Rattle.plan_values.proofs.RefusedSteps.{addition_is_refused}
use Rattle.plan_values.proofs.laws.refused_step_is_insertion.Goals as goal

pub returns : goal.returns
returns g c = λ f refuses h x v. addition_is_refused f refuses h x v
