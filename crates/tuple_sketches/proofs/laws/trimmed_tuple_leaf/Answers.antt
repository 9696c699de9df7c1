use Rattle.core_laws.specs.Folds.{fold_key, folded_of}
use Rattle.core_laws.proofs.insertions.FoldedSteps.{folded-keeps}
use Rattle.core_laws.proofs.insertions.Leaves.{trimmed}
use Rattle.core_policies.specs.Summaries.{update_step}
use Rattle.core_slots.specs.Entry.{tuple_key}
use Rattle.core_policies.proofs.FoldedValues.{updates-keep}
use Rattle.tuple_sketches.proofs.laws.trimmed_tuple_leaf.Goals as goal

pub returns : goal.returns
returns g c = λ creates updates k start steps high updated.
    trimmed (fold_key tuple_key) (folded_of tuple_key (update_step creates updates)) (folded-keeps tuple_key (update_step creates updates) (updates-keep creates updates)) k start steps high updated
