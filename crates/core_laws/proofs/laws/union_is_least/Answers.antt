use Rattle.core_laws.proofs.operators.Samples.{union_lawful}
use Rattle.core_laws.proofs.laws.union_is_least.Goals as goal

pub returns : goal.returns
returns g c = λ m. union_lawful m.key m.merges m.keeps
