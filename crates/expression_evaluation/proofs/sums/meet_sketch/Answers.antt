use Rattle.std.proofs.Common.{Some, refl, ap, ◌∙◌}
use Rattle.std.proofs.lemmas.Result.{err_from_is_err_and}
use Rattle.core_compact.specs.CompactState.{compact_value}
use Rattle.core_laws.specs.Operators.{meet_next}
use Rattle.core_laws.specs.Shown.{shown_value}
use Rattle.core_laws.specs.Values.{Sketch}
use Rattle.core_policies.specs.Summaries.{combined, combine_refused}
use Rattle.core_slots.specs.Entry.{tuple_key}
use Rattle.core_state.specs.View.{shows, sequence}
use Rattle.tuple_sketches.specs.Numbers.{combined_number}
use Rattle.expression_evaluation.specs.Values.{sum_merged}
use Rattle.expression_evaluation.proofs.SumsRefused.{agree, refused_meet}
use Rattle.expression_evaluation.proofs.TwoSketches.{intersection_accepts}
use Rattle.expression_evaluation.proofs.Unrefused.{met_plain}
use Rattle.expression_evaluation.proofs.sums.meet_sketch.Goals as goal

pub returns-clause-met : goal.returns-clause-met
returns-clause-met g c =
    let view = c.as_view.result in
    let mode = c.args.intersection.now.state.policy.mode in
    let old = c.args.intersection.now.state.result in
    met_plain tuple_key (combined (combined_number mode)) (sum_merged mode) (combine_refused (combined_number mode)) (agree mode) (λ x y. refl) c.update.new.self.state.result old (shown_value tuple_key (shows tuple_key view) (sequence view)) c.in_ok-update.ensures.met
    ∙ ap (λ (u : Sketch _). Some (meet_next tuple_key (sum_merged mode) old u)) c.as_view.ensures.value

pub returns-in_err-update-clause-refused : goal.returns-in_err-update-clause-refused
returns-in_err-update-clause-refused g c =
    let view = c.as_view.result in
    let old = c.args.intersection.now.state in
    let p = err_from_is_err_and c.from_residual.result c.from_residual.ensures.1 in
    let none = intersection_accepts tuple_key old c.args.sketch.now (shows tuple_key view) old.seed_hash refl c.as_view.ensures.shows c.requires in
    rw (p.1, p.2) (refused_meet old.policy.mode old (shows tuple_key view) (sequence view) c.in_err-update.field-0.0 none c.in_err-update.ensures.refused.1 (compact_value tuple_key c.args.sketch.now) c.as_view.ensures.value)
