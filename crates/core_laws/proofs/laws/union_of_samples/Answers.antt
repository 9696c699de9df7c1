use Rattle.core_laws.proofs.operators.Samples.{union_samples}
use Rattle.core_laws.proofs.laws.union_of_samples.Goals as goal

pub returns : goal.returns
returns g c = λ m. union_samples m.key m.merges m.keeps
