use Rattle.std.proofs.Common.{None, Some, ap, sym, ◌∙◌, inl, inr}
use Rattle.std.proofs.lemmas.List.{take_all}
use Rattle.std.proofs.lemmas.Result.{err_from_is_err_and, IfOk-weaker}
use Rattle.core_laws.specs.Entries.{hash_key, first_hash}
use Rattle.core_laws.specs.Operators.{meet_next}
use Rattle.core_laws.specs.Shown.{shown_value}
use Rattle.core_operators.specs.Intersection.{seed_refusal}
use Rattle.theta_sketches.specs.View.{view_shows, view_sequence}
use Rattle.keys_sketches.specs.Keys.{sketch_of_value}
use Rattle.keys_sketches.specs.Meeting.{result_or_empty, met_of, meet_refusal, refusal_of_intersection}
use Rattle.keys_sketches.specs.Shards.{values_of_sketches}
use Rattle.keys_sketches.proofs.Meets.{met_next, result_or_empty-met, same_item}
use Rattle.keys_sketches.proofs.Refused.{one_at, met_further, met_refused, met_all, update_kind, only_kind, refuses_kind, refuses_memory, refuses_same, first_none, first_some}
use Rattle.keys_sketches.proofs.images.intersection.Goals as goal

pub loop-sketch-preserved : goal.loop-sketch-preserved
loop-sketch-preserved g c = record {
  value = met_next c.loop-sketch.so_far.result c.update.new.self.result c.args.sketches.now c.loop-sketch.sketch-index c.sketch-item.result (shown_value hash_key (view_shows c.as_view.result) (view_sequence c.as_view.result))
      c.loop-sketch-test.true c.loop-sketch.invariant.value c.in_ok-update.ensures.met (c.as_view.ensures.value ∙ same_item c.args.sketches.now c.loop-sketch.sketch-index c.sketch-item.result c.sketch-item.is);
  same_seed = ap (λ i. i.seed_hash) c.in_ok-update.ensures.made_with ∙ c.loop-sketch.invariant.same_seed;
  refusal =
      let seed = c.args.seed in
      let now = c.loop-sketch.so_far in
      let i = c.loop-sketch.sketch-index in
      let sketches = c.args.sketches.now in
      let item = c.sketch-item.result in
      let same = c.loop-sketch.invariant.same_seed ∙ ap (λ x. x.seed_hash) c.in_ok-so_far.ensures.made in
      let accepted = one_at seed now sketches i item (view_shows c.as_view.result) same c.sketch-item.is c.as_view.ensures.shows ∙ c.in_ok-update.ensures.accepted in
      met_further seed None now.result c.update.new.self.result sketches i item c.loop-sketch-test.true c.loop-sketch.invariant.refusal accepted
      (c.in_ok-update.ensures.met ∙ ap (λ v. Some (meet_next hash_key first_hash now.result v)) (c.as_view.ensures.value ∙ same_item sketches i item c.sketch-item.is));
}

pub returns-clause-intersection : goal.returns-clause-intersection
returns-clause-intersection g c =
    let i = c.loop-sketch.so_far in
    let all = take_all c.loop-sketch.sketch-index c.args.sketches.now c.loop-sketch-test.false in
    IfOk-weaker c.sketch_of.result _ _
    (λ s is. is ∙ ap (sketch_of_value c.args.seed) (ap result_or_empty c.loop-sketch.invariant.value ∙ ap (λ xs. result_or_empty (met_of (values_of_sketches xs))) all ∙ result_or_empty-met (values_of_sketches c.args.sketches.now)))
    (c.sketch_of.ensures.value (c.loop-sketch.invariant.same_seed ∙ ap (λ x. x.seed_hash) c.in_ok-so_far.ensures.made))

pub returns-clause-refused : goal.returns-clause-refused
returns-clause-refused g c =
    let seed = c.args.seed in
    let sketches = c.args.sketches.now in
    let accepted = c.in_ok-so_far.ensures.refused in
    let none = met_all seed None c.loop-sketch.so_far.result sketches c.loop-sketch.sketch-index c.loop-sketch-test.false c.loop-sketch.invariant.refusal in
    refuses_same c.sketch_of.result (refusal_of_intersection seed sketches) None (first_none (seed_refusal seed) (meet_refusal seed None sketches) accepted ∙ none) (c.sketch_of.ensures.refused accepted)

pub returns-in_err-so_far-clause-refused : goal.returns-in_err-so_far-clause-refused
returns-in_err-so_far-clause-refused g c =
    let seed = c.args.seed in
    let sketches = c.args.sketches.now in
    let e = c.in_err-so_far.field-0.0 in
    let result = c.from_residual-in_err-so_far.result in
    let p = err_from_is_err_and result c.from_residual-in_err-so_far.ensures.1 in
    let kind = only_kind (seed_refusal seed) e c.in_err-so_far.ensures.refused in
    refuses_kind result (refusal_of_intersection seed sketches) p.0 p.1 (first_some (seed_refusal seed) (meet_refusal seed None sketches) e kind ∙ ap (λ k. Some k) (sym p.2))

pub returns-in_err-update-clause-refused : goal.returns-in_err-update-clause-refused
returns-in_err-update-clause-refused g c =
    let seed = c.args.seed in
    let now = c.loop-sketch.so_far in
    let item = c.sketch-item.result in
    let sketches = c.args.sketches.now in
    let shows = view_shows c.as_view.result in
    let e = c.in_err-update.field-0.0 in
    let result = c.from_residual-in_err-update.result in
    let p = err_from_is_err_and result c.from_residual-in_err-update.ensures.1 in
    let same = c.loop-sketch.invariant.same_seed ∙ ap (λ x. x.seed_hash) c.in_ok-so_far.ensures.made in
    elim (update_kind now shows e c.in_err-update.ensures.refused.1) [
      | inl kind ↦
          let one = one_at seed now sketches c.loop-sketch.sketch-index item shows same c.sketch-item.is c.as_view.ensures.shows ∙ kind in
          let all = met_refused seed None now.result sketches c.loop-sketch.sketch-index item e c.loop-sketch-test.true c.loop-sketch.invariant.refusal one in
          refuses_kind result (refusal_of_intersection seed sketches) p.0 p.1
          (first_none (seed_refusal seed) (meet_refusal seed None sketches) c.in_ok-so_far.ensures.refused ∙ all ∙ ap (λ k. Some k) (sym p.2))
      | inr memory ↦ refuses_memory result (refusal_of_intersection seed sketches) p.0 p.1 (p.2 ∙ memory)
    ]
