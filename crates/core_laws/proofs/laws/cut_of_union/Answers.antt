use Rattle.core_laws.proofs.operators.Unions.{cut_of_union}
use Rattle.core_laws.proofs.laws.cut_of_union.Goals as goal

pub returns : goal.returns
returns g c = λ m. cut_of_union m.key m.merges m.keeps
