use Rattle.std.proofs.Common.{◌^◌, refl, sym, subst}
use Rattle.std.proofs.lemmas.Result.{err_from_is_err_and}
use Rattle.core_compact.specs.CompactState.{compact_value}
use Rattle.core_laws.specs.Maps.{IsApart}
use Rattle.core_laws.specs.Shown.{IsShown, shown_value}
use Rattle.core_laws.proofs.maps.MapsOfLists.{apart-distinct}
use Rattle.core_operators.specs.Union.{union_value}
use Rattle.core_policies.specs.Summaries.{combined, combine_refused}
use Rattle.core_slots.specs.Entry.{tuple_key}
use Rattle.core_state.specs.View.{shows, sequence}
use Rattle.tuple_sketches.specs.Numbers.{combined_number}
use Rattle.expression_evaluation.specs.Values.{sum_merged}
use Rattle.expression_evaluation.proofs.SumsRefused.{agree, refused_join, has_part}
use Rattle.expression_evaluation.proofs.TwoSketches.{union_accepts, one_more}
use Rattle.expression_evaluation.proofs.Unrefused.{united_plain}
use Rattle.expression_evaluation.proofs.sums.unite_sketch.Goals as goal

pub returns-clause-united : goal.returns-clause-united
returns-clause-united g c = λ values so_far.
    let view = c.as_view-shown.result in
    let s = shows tuple_key view in
    let listing = sequence view in
    let old = c.args.union.now.state in
    let new = c.update.new.self.state in
    let mode = old.policy.mode in
    one_more tuple_key (sum_merged mode) (λ x y same. same) old new s listing (compact_value tuple_key c.args.sketch.now) c.in_ok-update.ensures.skipped
    (λ nonempty. united_plain tuple_key (combined (combined_number mode)) (sum_merged mode) (combine_refused (combined_number mode)) (agree mode) (λ x y. refl) (2 ^ old.lg_k) old.start (union_value tuple_key new) (union_value tuple_key old) (shown_value tuple_key s listing) (c.in_ok-update.ensures.united nonempty))
    c.as_view-shown.ensures.value values so_far

pub returns-clause-part : goal.returns-clause-part
returns-clause-part g c = λ none.
    let view = c.as_view-shown.result in
    let sketch = c.args.sketch.now in
    let laws = subst IsShown c.as_view-shown.ensures.shows c.in_ok-update.ensures.shown in
    let apart = subst (λ xs. IsApart tuple_key xs) (sym c.as_view-shown.ensures.sequence) (apart-distinct tuple_key sketch.entries laws.distinct) in
    has_part c.args.union.now.state.policy.mode c.args.union.now.state c.update.new.self.state (shows tuple_key view) (sequence view) apart none c.in_ok-update.ensures.skipped c.in_ok-update.ensures.joined (compact_value tuple_key sketch) c.as_view-shown.ensures.value

pub returns-in_err-update-clause-refused : goal.returns-in_err-update-clause-refused
returns-in_err-update-clause-refused g c =
    let view = c.as_view-shown.result in
    let s = shows tuple_key view in
    let old = c.args.union.now.state in
    let p = err_from_is_err_and c.from_residual.result c.from_residual.ensures.1 in
    let none = union_accepts tuple_key old c.args.sketch.now s old.seed_hash c.requires.sound refl c.requires.seed c.as_view-shown.ensures.shows in
    rw (p.1, p.2) (refused_join old.policy.mode old c.update.new.self.state s (sequence view) c.in_err-update.field-0.0 none c.in_err-update.ensures.refused (compact_value tuple_key c.args.sketch.now) c.as_view-shown.ensures.value)
