use Rattle.core_laws.proofs.insertions.FoldedSteps.{folded-keeps}
use Rattle.core_policies.specs.Summaries.{update_step}
use Rattle.core_slots.specs.Entry.{tuple_key}
use Rattle.core_policies.proofs.FoldedValues.{updates-keep}
use Rattle.tuple_sketches.proofs.laws.folded_updates_keep_hashes.Goals as goal

pub returns : goal.returns
returns g c = λ creates updates. folded-keeps tuple_key (update_step creates updates) (updates-keep creates updates)
