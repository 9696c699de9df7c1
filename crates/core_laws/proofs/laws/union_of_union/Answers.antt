use Rattle.core_laws.proofs.operators.Unions.{union_of_union}
use Rattle.core_laws.proofs.laws.union_of_union.Goals as goal

pub returns : goal.returns
returns g c = λ m. union_of_union m.key m.merges m.keeps
