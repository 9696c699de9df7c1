use Rattle.std.proofs.Common.{ap, ◌∙◌}
use Rattle.std.specs.Prelude.{◌||◌}
use Rattle.core_state.specs.View.{shows, sequence}
use Rattle.core_laws.specs.Entries.{hash_key}
use Rattle.core_laws.specs.Operators.{minus}
use Rattle.core_laws.specs.Shown.{shown_value}
use Rattle.core_slots.specs.Entry.{tuple_key}
use Rattle.core_operators.proofs.DifferencesByKeys.{minus_of_keys}
use Rattle.plan_evaluation.proofs.families.Differences.{fold_answer}
use Rattle.plan_evaluation.proofs.families.Shown.{hashes_lent}
use Rattle.plan_evaluation.proofs.tuple.TupleFamilySketchFamily.a_not_b.Goals as goal

pub returns-clause-ok : goal.returns-clause-ok
returns-clause-ok g c =
    let a = c.view-a.result in
    let b = c.view-b.result in
    let first = shown_value tuple_key (shows tuple_key a) (sequence a) in
    fold_answer tuple_key first (shown_value tuple_key (shows tuple_key b) (sequence b)) _ _ c.view-a.ensures.value c.view-b.ensures.value
    _ (ap (λ hs. minus tuple_key hash_key first (shown_value hash_key (shows tuple_key b) hs)) (hashes_lent tuple_key b.sketch) ∙ minus_of_keys tuple_key (shows tuple_key b).empty (shows tuple_key b).theta first (sequence b))
    _ _ c.view-a.ensures.seed _ _ (ap (λ o. c.args.ordered || o) c.view-a.ensures.ordered) c.compute.result c.compute.ensures.ok
