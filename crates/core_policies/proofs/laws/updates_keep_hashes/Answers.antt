use Rattle.core_policies.proofs.FoldedValues.{updates-keep}
use Rattle.core_policies.proofs.laws.updates_keep_hashes.Goals as goal

pub returns : goal.returns
returns g c = λ creates updates. updates-keep creates updates
