use Rattle.std.proofs.Common.{ℕ, [], ◌∷◌, Option, Some, refl, ap, subst, ◌∙◌}
use Rattle.std.proofs.lemmas.Result.{err_from_is_err_and}
use Rattle.sketch_base.specs.Seed.{seed_hash}
use Rattle.core_compact.specs.CompactState.{compact_value}
use Rattle.core_laws.specs.Operators.{meet, meet_next}
use Rattle.core_laws.specs.Values.{Sketch}
use Rattle.core_slots.specs.Entry.{tuple_key}
use Rattle.core_slots.specs.declared.entry.TupleEntry.{TupleEntry}
use Rattle.tuple_sketches.specs.declared.numbers.SummaryMode.{SummaryMode}
use Rattle.expression_evaluation.specs.Sums.{IsRefusedMeet}
use Rattle.expression_evaluation.specs.Values.{sum_merged}
use Rattle.expression_evaluation.proofs.TwoSketches.{merge_error, met_one, same_answer}
use Rattle.expression_evaluation.proofs.sums.intersection_of.Goals as goal

pub returns-clause-value : goal.returns-clause-value
returns-clause-value g c =
    let start = c.in_ok-intersection.intersection.state in
    let one = c.meet_sketch.new.intersection.state in
    let two = c.meet_sketch-2.new.intersection.state in
    let a = compact_value tuple_key c.args.first in
    let b = compact_value tuple_key c.args.second in
    let v = meet tuple_key (sum_merged c.args.mode) (a ∷ b ∷ []) in
    let met = met_one tuple_key (sum_merged start.policy.mode) start.result one.result a a c.in_ok-intersection.ensures.value c.in_ok-meet_sketch.ensures.met refl in
    let same = c.in_ok-meet_sketch.ensures.mode ∙ c.in_ok-intersection.ensures.mode in
    let is = c.in_ok-meet_sketch-2.ensures.met
    ∙ ap (λ (o : Option (Sketch (TupleEntry ℕ))). Some (meet_next tuple_key (sum_merged one.policy.mode) o b)) met
    ∙ ap (λ (m : SummaryMode). Some (meet tuple_key (sum_merged m) (a ∷ b ∷ []))) same in
    same_answer tuple_key v v two.seed_hash (seed_hash c.args.seed) c.in_ok-sketch.sketch refl (c.in_ok-meet_sketch-2.ensures.seed ∙ c.in_ok-meet_sketch.ensures.seed ∙ c.in_ok-intersection.ensures.seed)
    (c.in_ok-sketch.ensures.value v is)

pub returns-in_err-meet_sketch-clause-refused : goal.returns-in_err-meet_sketch-clause-refused
returns-in_err-meet_sketch-clause-refused g c =
    let p = err_from_is_err_and c.from_residual-in_err-meet_sketch.result c.from_residual-in_err-meet_sketch.ensures.1 in
    let mode = c.in_ok-intersection.intersection.state.policy.mode in
    let a = compact_value tuple_key c.args.first in
    rw (p.1, p.2) (merge_error c.in_err-meet_sketch.field-0.0 (λ refused. absurd (subst (λ (o : Option (Sketch (TupleEntry _))). IsRefusedMeet mode o a) c.in_ok-intersection.ensures.value refused)) c.in_err-meet_sketch.ensures.refused)

pub returns-in_err-meet_sketch-2-clause-refused : goal.returns-in_err-meet_sketch-2-clause-refused
returns-in_err-meet_sketch-2-clause-refused g c =
    let p = err_from_is_err_and c.from_residual-in_err-meet_sketch-2.result c.from_residual-in_err-meet_sketch-2.ensures.1 in
    let start = c.in_ok-intersection.intersection.state in
    let one = c.meet_sketch.new.intersection.state in
    let a = compact_value tuple_key c.args.first in
    let b = compact_value tuple_key c.args.second in
    let met = met_one tuple_key (sum_merged start.policy.mode) start.result one.result a a c.in_ok-intersection.ensures.value c.in_ok-meet_sketch.ensures.met refl in
    let same = c.in_ok-meet_sketch.ensures.mode ∙ c.in_ok-intersection.ensures.mode in
    rw (p.1, p.2) (merge_error c.in_err-meet_sketch-2.field-0.0
    (λ refused. subst (λ (m : SummaryMode). IsRefusedMeet m (Some a) b) same (subst (λ (o : Option (Sketch (TupleEntry _))). IsRefusedMeet one.policy.mode o b) met refused))
    c.in_err-meet_sketch-2.ensures.refused)
