use Rattle.core_laws.proofs.operators.Samples.{union_stays_lawful}
use Rattle.core_laws.proofs.laws.union_stays_lawful.Goals as goal

pub returns : goal.returns
returns g c = λ m. union_stays_lawful m.key m.merges m.keeps
