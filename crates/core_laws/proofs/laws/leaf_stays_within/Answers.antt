use Rattle.core_laws.proofs.insertions.Leaves.{within-leaf}
use Rattle.core_laws.proofs.laws.leaf_stays_within.Goals as goal

pub returns : goal.returns
returns g c = λ key step_of keeps. within-leaf key step_of keeps
