use Rattle.std.proofs.Common.{ℕ, List, ap, ◌∙◌, arith}
use Rattle.sketch_base.specs.Seed.{seed_hash}
use Rattle.core_compact.specs.CompactState.{Compact, ordered_sketch}
use Rattle.expression_evaluation.specs.Values.{hashes_value}
use Rattle.expression_evaluation.specs.Running.{values_of}
use Rattle.distinct_arguments.specs.Faults.{options_of}
use Rattle.distinct_commands.proofs.Evaluated.{evaluated}
use Rattle.distinct_commands.proofs.job.Job.evaluate_theta.Goals as goal

pub returns-clause-evaluated : goal.returns-clause-evaluated
returns-clause-evaluated g c =
    evaluated (options_of c.args.self.options.now) c.args.self.seed c.put_result.result (λ v. v.items) (g.S.Sources.texts c.args.self.inputs.sources) c.args.expression.now.text.now c.args.expression.now.names.items c.args.expression.now.steps.items
    c.in_ok-sketches.sketches.items c.in_ok-result.result c.requires.read c.in_ok-sketches.ensures.operands
    (omega (arith, c.if-found-wanted.false, c.len-found.ensures, c.len-wanted.ensures, c.in_ok-sketches.sketches.ok.0, c.args.expression.now.names.ok.0))
    (c.in_ok-result.ensures.value c.requires.read ∙ ap (λ (ss : List (Compact ℕ)). ordered_sketch (hashes_value c.args.self.options.now.lg_k (values_of ss) c.requires.read.tree) (seed_hash c.args.self.seed)) c.as_slice.ensures.value)
    c.put_result.ensures.result
