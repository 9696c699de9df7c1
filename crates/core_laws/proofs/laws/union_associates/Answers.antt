use Rattle.core_laws.proofs.operators.KeysAlone.{union_associates}
use Rattle.core_laws.proofs.laws.union_associates.Goals as goal

pub returns : goal.returns
returns g c = λ m. union_associates m.key m.merges m.keeps
