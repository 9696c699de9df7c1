use Rattle.core_laws.proofs.insertions.FoldedSteps.{folded-keeps}
use Rattle.core_laws.proofs.laws.folded_steps_keep.Goals as goal

pub returns : goal.returns
returns g c = λ key. folded-keeps key
