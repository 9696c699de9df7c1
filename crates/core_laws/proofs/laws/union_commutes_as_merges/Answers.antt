use Rattle.core_laws.proofs.operators.SummariesAlike.{unite_commutes}
use Rattle.core_laws.proofs.laws.union_commutes_as_merges.Goals as goal

pub returns : goal.returns
returns g c = λ m. unite_commutes m.key m.merges m.keeps
