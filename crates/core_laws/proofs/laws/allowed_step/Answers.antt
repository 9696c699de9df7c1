use Rattle.core_laws.proofs.insertions.FoldedSteps.{unmarked-step}
use Rattle.core_laws.proofs.laws.allowed_step.Goals as goal

pub returns : goal.returns
returns g c = unmarked-step
