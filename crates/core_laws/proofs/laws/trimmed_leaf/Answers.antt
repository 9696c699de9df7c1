use Rattle.core_laws.proofs.insertions.Leaves.{trimmed}
use Rattle.core_laws.proofs.laws.trimmed_leaf.Goals as goal

pub returns : goal.returns
returns g c = λ key step_of keeps. trimmed key step_of keeps
