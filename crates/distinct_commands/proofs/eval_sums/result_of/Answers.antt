use Rattle.std.proofs.Common.{◌≡◌, ◌∙◌, ℕ, List, [], Some, subst}
use Rattle.expression_text.specs.declared.operator.Step.{Step}
use Rattle.std.proofs.lemmas.List.{length-map}
use Rattle.sketch_base.specs.Seed.{seed_hash}
use Rattle.core_compact.specs.CompactState.{ordered_sketch}
use Rattle.tuple_sketches.specs.declared.numbers.SummaryMode.{SummaryMode}
use Rattle.expression_evaluation.specs.Values.{sum_rules, sums_value}
use Rattle.expression_evaluation.specs.Running.{MayRefuse, sums_refusal, sums_values}
use Rattle.expression_text.specs.Expressions.{HasIndicesBelow}
use Rattle.distinct_commands.specs.Failing.{IsOfResult}
use Rattle.distinct_commands.proofs.OnlyMemory.{sized}
use Rattle.distinct_commands.proofs.WholeStreams.{evaluation_accepted, merge_alone, merge_refused}
use Rattle.distinct_commands.proofs.eval_sums.result_of.Goals as goal

pub evaluation_failure-requires : goal.evaluation_failure-requires
evaluation_failure-requires c =
    let options = c.args.options.now in
    let spelled = c.requires.read in
    let sketches = c.args.sketches.now in
    let steps = c.as_slice-steps.result.now in
    let accepted = evaluation_accepted (sum_rules c.chosen_summary-mode.result) c.args.seed options.lg_k steps sketches spelled.tree (sized options.lg_k c.args.seed options.low options.high c.requires.seed) c.requires.seeded
    (subst (λ (n : ℕ). HasIndicesBelow n spelled.tree) (length-map c.args.expression.now.names.items _ ∙ c.requires.counted) spelled.spelled.within) (c.as_slice-steps.ensures.value ∙ spelled.steps_are) in
    merge_alone (sums_refusal c.chosen_summary-mode.result c.args.seed options.lg_k steps sketches) (MayRefuse (sum_rules c.chosen_summary-mode.result) options.lg_k (sums_values sketches) steps (Some [])) c.in-Err.error accepted c.in-Err.ensures.refused

pub returns-in-Err-clause-failed : goal.returns-in-Err-clause-failed
returns-in-Err-clause-failed c =
    let options = c.args.options.now in
    let spelled = c.requires.read in
    let sketches = c.args.sketches.now in
    let steps = c.as_slice-steps.result.now in
    let accepted = evaluation_accepted (sum_rules c.chosen_summary-mode.result) c.args.seed options.lg_k steps sketches spelled.tree (sized options.lg_k c.args.seed options.low options.high c.requires.seed) c.requires.seeded
    (subst (λ (n : ℕ). HasIndicesBelow n spelled.tree) (length-map c.args.expression.now.names.items _ ∙ c.requires.counted) spelled.spelled.within) (c.as_slice-steps.ensures.value ∙ spelled.steps_are) in
    let M : List Step → Type 0 = λ ss. MayRefuse (sum_rules c.chosen_summary-mode.result) options.lg_k (sums_values sketches) ss (Some []) in
    subst (λ (m : SummaryMode). IsOfResult m options.lg_k c.args.expression.now.text.now c.args.expression.now.steps.items sketches c.evaluation_failure.result) c.chosen_summary-mode.ensures
    (c.evaluation_failure.ensures.of_result c.chosen_summary-mode.result options.lg_k c.args.expression.now.steps.items sketches
    (λ policy. subst M c.as_slice-steps.ensures.value (merge_refused (sums_refusal c.chosen_summary-mode.result c.args.seed options.lg_k steps sketches) (M steps) c.in-Err.error accepted c.in-Err.ensures.refused policy)))

pub returns-in-Ok-clause-value : goal.returns-in-Ok-clause-value
returns-in-Ok-clause-value c = λ spelled.
    let options = c.args.options.now in
    let sketches = c.args.sketches.now in
    let within = subst (λ (n : ℕ). HasIndicesBelow n spelled.tree) (length-map c.args.expression.now.names.items _ ∙ c.requires.counted) spelled.spelled.within in
    subst (λ (m : SummaryMode). c.in-Ok.sketch ≡ ordered_sketch (sums_value m options.lg_k (sums_values sketches) spelled.tree) (seed_hash c.args.seed)) c.chosen_summary-mode.ensures
    (c.in-Ok.ensures.value spelled.tree (c.as_slice-steps.ensures.value ∙ spelled.steps_are) within)
