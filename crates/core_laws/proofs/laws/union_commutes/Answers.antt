use Rattle.core_laws.proofs.operators.KeysAlone.{union_commutes}
use Rattle.core_laws.proofs.laws.union_commutes.Goals as goal

pub returns : goal.returns
returns g c = λ m. union_commutes m.key m.merges m.keeps
