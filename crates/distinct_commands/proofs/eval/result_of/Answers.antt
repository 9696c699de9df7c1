use Rattle.std.proofs.Common.{◌∙◌, ℕ, true, subst}
use Rattle.std.proofs.lemmas.List.{length-map}
use Rattle.expression_evaluation.specs.Values.{hash_rules}
use Rattle.expression_evaluation.specs.Running.{evaluation_refusal}
use Rattle.expression_text.specs.Expressions.{HasIndicesBelow}
use Rattle.keys_sketches.proofs.Refused.{only_memory}
use Rattle.distinct_commands.proofs.OnlyMemory.{sized}
use Rattle.distinct_commands.proofs.WholeStreams.{evaluation_accepted}
use Rattle.distinct_commands.proofs.eval.result_of.Goals as goal

pub out_of_memory-requires : goal.out_of_memory-requires
out_of_memory-requires c =
    let options = c.args.options.now in
    let spelled = c.requires.read in
    let sketches = c.args.sketches.now in
    let steps = c.as_slice-steps.result.now in
    let accepted = evaluation_accepted hash_rules c.args.seed options.lg_k steps sketches spelled.tree (sized options.lg_k c.args.seed options.low options.high c.requires.seed) c.requires.seeded
    (subst (λ (n : ℕ). HasIndicesBelow n spelled.tree) (length-map c.args.expression.now.names.items _ ∙ c.requires.counted) spelled.spelled.within) (c.as_slice-steps.ensures.value ∙ spelled.steps_are) in
    (only_memory (evaluation_refusal c.args.seed options.lg_k steps sketches) true c.in-Err.error accepted c.in-Err.ensures.refused).0
