use Rattle.std.proofs.Common.{[], refl}
use Rattle.core_policies.proofs.FoldedValues.{folded-values}
use Rattle.core_policies.proofs.laws.values_fold_in_order.Goals as goal

pub returns : goal.returns
returns g c = λ creates updates steps h carried. folded-values creates updates steps h [] [] carried refl
