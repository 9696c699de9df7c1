use Rattle.core_laws.proofs.operators.SummariesAlike.{unite_again}
use Rattle.core_laws.proofs.laws.union_again_as_merges.Goals as goal

pub returns : goal.returns
returns g c = λ m. unite_again m.key m.merges m.keeps
