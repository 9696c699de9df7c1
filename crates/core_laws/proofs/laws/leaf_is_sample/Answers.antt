use Rattle.core_laws.proofs.insertions.Leaves.{leaf-sample, leaf-lawful}
use Rattle.core_laws.proofs.laws.leaf_is_sample.Goals as goal

pub returns-clause-sample : goal.returns-clause-sample
returns-clause-sample g c = λ key step_of keeps. leaf-sample key step_of keeps

pub returns-clause-lawful : goal.returns-clause-lawful
returns-clause-lawful g c = λ key step_of keeps. leaf-lawful key step_of keeps
