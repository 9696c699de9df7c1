use Rattle.core_laws.proofs.operators.UnionUpdates.{update-value}
use Rattle.core_laws.proofs.laws.update_unites.Goals as goal

pub returns : goal.returns
returns g c = λ m. update-value m.key m.merges m.keeps
