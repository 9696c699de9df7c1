use Rattle.core_laws.proofs.operators.SummariesAlike.{unite_associates}
use Rattle.core_laws.proofs.laws.union_associates_as_merges.Goals as goal

pub returns : goal.returns
returns g c = λ m. unite_associates m.key m.merges m.keeps
