use Rattle.core_operators.proofs.UnionValue.{united}
use Rattle.core_operators.proofs.laws.joined_is_united.Goals as goal

pub returns : goal.returns
returns g c = λ m refuses. united m.key m.merges refuses m.keeps
