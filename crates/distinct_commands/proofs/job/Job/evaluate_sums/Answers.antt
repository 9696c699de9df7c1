use Rattle.std.proofs.Common.{ℕ, List, ap, ◌∙◌, arith}
use Rattle.sketch_base.specs.Seed.{seed_hash}
use Rattle.core_compact.specs.CompactState.{Compact, ordered_sketch}
use Rattle.core_slots.specs.declared.entry.TupleEntry.{TupleEntry}
use Rattle.expression_evaluation.specs.Values.{sums_value}
use Rattle.expression_evaluation.specs.Running.{sums_values}
use Rattle.distinct_arguments.specs.Faults.{options_of}
use Rattle.distinct_inputs.specs.Failures.{chosen_summary}
use Rattle.distinct_commands.proofs.Evaluated.{sums_evaluated}
use Rattle.distinct_commands.proofs.job.Job.evaluate_sums.Goals as goal

pub returns-clause-evaluated : goal.returns-clause-evaluated
returns-clause-evaluated g c =
    sums_evaluated (options_of c.args.self.options.now) c.args.self.seed c.put_result.result (λ v. v.items) (g.S.Sources.texts c.args.self.inputs.sources) c.args.expression.now.text.now c.args.expression.now.names.items c.args.expression.now.steps.items
    c.in_ok-sketches.sketches.items c.in_ok-result.result c.requires.read c.in_ok-sketches.ensures.operands
    (omega (arith, c.if-found-wanted.false, c.len-found.ensures, c.len-wanted.ensures, c.in_ok-sketches.sketches.ok.0, c.args.expression.now.names.ok.0))
    (c.in_ok-result.ensures.value c.requires.read ∙ ap (λ (ss : List (Compact (TupleEntry ℕ))). ordered_sketch (sums_value (chosen_summary (options_of c.args.self.options.now)) c.args.self.options.now.lg_k (sums_values ss) c.requires.read.tree) (seed_hash c.args.self.seed)) c.as_slice.ensures.value)
    c.put_result.ensures.result
