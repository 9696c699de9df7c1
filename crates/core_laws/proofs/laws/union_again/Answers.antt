use Rattle.core_laws.proofs.operators.KeysAlone.{union_again}
use Rattle.core_laws.proofs.laws.union_again.Goals as goal

pub returns : goal.returns
returns g c = λ m. union_again m.key m.merges m.keeps
