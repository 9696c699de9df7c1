use Rattle.core_laws.specs.Folds.{fold_key, folded_of}
use Rattle.core_laws.proofs.insertions.FoldedSteps.{folded-keeps}
use Rattle.core_laws.proofs.insertions.Leaves.{leaf-sample, leaf-lawful}
use Rattle.core_policies.specs.Summaries.{update_step}
use Rattle.core_slots.specs.Entry.{tuple_key}
use Rattle.core_policies.proofs.FoldedValues.{updates-keep}
use Rattle.tuple_sketches.proofs.laws.tuple_leaf_is_sample.Goals as goal

pub returns-clause-sample : goal.returns-clause-sample
returns-clause-sample g c = λ creates updates k start steps high.
    leaf-sample (fold_key tuple_key) (folded_of tuple_key (update_step creates updates)) (folded-keeps tuple_key (update_step creates updates) (updates-keep creates updates)) k start steps high

pub returns-clause-lawful : goal.returns-clause-lawful
returns-clause-lawful g c = λ creates updates k start steps high.
    leaf-lawful (fold_key tuple_key) (folded_of tuple_key (update_step creates updates)) (folded-keeps tuple_key (update_step creates updates) (updates-keep creates updates)) k start steps high
