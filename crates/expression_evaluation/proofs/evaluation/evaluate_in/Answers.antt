use Rattle.std.proofs.Common.{◌≡◌, [], true, false, eqb, length, Some, inl, inr, ap, sym, subst, ◌∙◌}
use Rattle.std.proofs.lemmas.Result.{err_from_is_err_and}
use Rattle.sketch_base.specs.Seed.{seed_hash}
use Rattle.core_compact.specs.CompactState.{compact_value, ordered_sketch}
use Rattle.core_laws.specs.Samples.{IsSample}
use Rattle.expression_evaluation.specs.Values.{expression_whole}
use Rattle.expression_evaluation.specs.Running.{values_by, values_onto, are_accepted, refusal_by, AreOrderedSketches, MayRefuse}
use Rattle.expression_evaluation.proofs.RunSteps.{step_missing, refused_next, all_run, no_result_left, result_left, last_value, no_result, one_result, answer_sketch, ordered-last}
use Rattle.expression_evaluation.proofs.TwoSketches.{error_of_memory, error_of_kind, error_of_merge}
use Rattle.expression_evaluation.proofs.WholeSets.{expression_sample}
use Rattle.expression_evaluation.proofs.evaluation.evaluate_in.Goals as goal

pub returns-in_err-run_step-clause-refused : goal.returns-in_err-run_step-clause-refused
returns-in_err-run_step-clause-refused g c =
    let f = g.F.SetFamily in
    let result = c.from_residual-in_err-run_step.result in
    let p = err_from_is_err_and result c.from_residual-in_err-run_step.ensures.1 in
    let steps = c.args.steps.now in
    let sketches = c.args.sketches.now in
    let values = values_by (f.rules c.args.family.now) f.named sketches in
    let lg = c.args.lg_k in
    let stack = values_onto (f.rules c.args.family.now) f.listed c.loop-step.stack.items [] in
    let refusal = refusal_by (f.rules c.args.family.now) f.named c.args.seed lg steps sketches in
    let may = MayRefuse (f.rules c.args.family.now) lg values steps (Some []) in
    elim c.in_err-run_step.ensures.refused [
      | inl memory ↦ error_of_memory result refusal may p.0 p.1 (p.2 ∙ memory)
      | inr (inl wrong) ↦ error_of_kind result refusal may p.0 p.1
          (no_result (f.rules c.args.family.now) f.named c.args.seed lg steps sketches (step_missing (f.rules c.args.family.now) lg values steps c.loop-step.step-index _ stack c.loop-step-test.true c.loop-step.invariant.ran wrong.1)
          ∙ ap (λ e. Some e) (sym (p.2 ∙ wrong.0)))
      | inr (inr policy) ↦ error_of_merge result refusal may p.0 p.1 (p.2 ∙ policy.0) (c.loop-step.invariant.refusals (refused_next (f.rules c.args.family.now) lg values steps c.loop-step.step-index _ stack c.loop-step-test.true policy.1))
    ]

pub returns-then-not-is_empty-clause-refused : goal.returns-then-not-is_empty-clause-refused
returns-then-not-is_empty-clause-refused g c =
    let f = g.F.SetFamily in
    let steps = c.args.steps.now in
    let sketches = c.args.sketches.now in
    let rest = c.pop.new.self.items in
    let some : false ≡ eqb (length rest) 0 = c.if-not-is_empty.ensures ∙ ap (λ xs. eqb (length xs) 0) c.as_slice.ensures.value in
    let none = no_result_left (f.rules c.args.family.now) f.listed c.args.lg_k (values_by (f.rules c.args.family.now) f.named sketches) steps c.loop-step.step-index c.loop-step.stack.items rest c.in-Some.last c.loop-step-test.false c.loop-step.invariant.ran c.in-Some.ensures.items some in
    inl (no_result (f.rules c.args.family.now) f.named c.args.seed c.args.lg_k steps sketches none ∙ ap (λ e. Some e) (sym c.new-then-not-is_empty.ensures))

pub returns-clause-value : goal.returns-clause-value
returns-clause-value g c = λ e is within.
    let f = g.F.SetFamily in
    let sketches = c.args.sketches.now in
    let values = values_by (f.rules c.args.family.now) f.named sketches in
    let lg = c.args.lg_k in
    let h = seed_hash c.args.seed in
    let last = c.in-Some.last in
    let rest = c.pop.new.self.items in
    let v = compact_value (f.rules c.args.family.now).key (f.listed last) in
    let ran = all_run (f.rules c.args.family.now) f.listed lg values c.args.steps.now c.loop-step.step-index c.loop-step.stack.items rest last c.loop-step-test.false c.loop-step.invariant.ran c.in-Some.ensures.items in
    let ordered = subst (λ xs. AreOrderedSketches (f.rules c.args.family.now) f.listed h xs) c.in-Some.ensures.items c.loop-step.invariant.ordered in
    answer_sketch (f.rules c.args.family.now).key v h (f.listed last) (ordered-last (f.rules c.args.family.now) f.listed h rest last ordered)
    ∙ ap (λ u. ordered_sketch u h) (last_value (f.rules c.args.family.now) f.named lg sketches c.args.steps.now v (values_onto (f.rules c.args.family.now) f.listed rest []) e ran is within)

pub returns-clause-whole : goal.returns-clause-whole
returns-clause-whole g c = λ e wholes is samples within.
    let f = g.F.SetFamily in
    let sketches = c.args.sketches.now in
    let values = values_by (f.rules c.args.family.now) f.named sketches in
    let lg = c.args.lg_k in
    let last = c.in-Some.last in
    let rest = c.pop.new.self.items in
    let ran = all_run (f.rules c.args.family.now) f.listed lg values c.args.steps.now c.loop-step.step-index c.loop-step.stack.items rest last c.loop-step-test.false c.loop-step.invariant.ran c.in-Some.ensures.items in
    subst (λ v. IsSample (f.rules c.args.family.now).key v (expression_whole (f.rules c.args.family.now) wholes e)) (sym (last_value (f.rules c.args.family.now) f.named lg sketches c.args.steps.now (compact_value (f.rules c.args.family.now).key (f.listed last)) (values_onto (f.rules c.args.family.now) f.listed rest []) e ran is within))
    (expression_sample (f.rules c.args.family.now) (g.met.F.SetFamily.keeps c.args.family.now) lg values wholes e samples)

pub returns-clause-accepted : goal.returns-clause-accepted
returns-clause-accepted g c =
    let f = g.F.SetFamily in
    let steps = c.args.steps.now in
    let sketches = c.args.sketches.now in
    let last = c.in-Some.last in
    let rest = c.pop.new.self.items in
    let none : true ≡ eqb (length rest) 0 = c.if-not-is_empty.ensures ∙ ap (λ xs. eqb (length xs) 0) c.as_slice.ensures.value in
    let accepted : are_accepted f.named (seed_hash c.args.seed) sketches ≡ true = ap (λ h. are_accepted f.named h sketches) (sym c.in_ok-hash.ensures.hash) ∙ sym c.are_accepted.ensures ∙ c.if-not-are_accepted.false in
    let left = result_left (f.rules c.args.family.now) f.listed c.args.lg_k (values_by (f.rules c.args.family.now) f.named sketches) steps c.loop-step.step-index c.loop-step.stack.items rest last c.loop-step-test.false c.loop-step.invariant.ran c.in-Some.ensures.items none in
    one_result (f.rules c.args.family.now) f.named c.args.seed c.args.lg_k steps sketches (compact_value (f.rules c.args.family.now).key (f.listed last)) c.in_ok-hash.ensures.refused accepted left
