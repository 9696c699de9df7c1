use Rattle.core_laws.proofs.insertions.FoldedSteps.{unmarked-step}
use Rattle.core_policies.specs.Summaries.{update_step}
use Rattle.core_slots.specs.Entry.{tuple_key}
use Rattle.tuple_sketches.proofs.laws.allowed_update.Goals as goal

pub returns : goal.returns
returns g c = λ creates updates k h value v allowed. unmarked-step tuple_key k h (update_step creates updates h value) v allowed
