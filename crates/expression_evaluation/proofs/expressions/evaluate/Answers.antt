use Rattle.std.proofs.Common.{[], Some, true, subst, sym}
use Rattle.std.proofs.lemmas.Result.{err_from_is_err_and}
use Rattle.core_laws.specs.Refusal.{Refuses}
use Rattle.expression_evaluation.specs.Values.{hash_rules}
use Rattle.expression_evaluation.specs.Running.{values_of, evaluation_refusal, MayRefuse}
use Rattle.expression_evaluation.proofs.RunSteps.{hashes_unrefused}
use Rattle.expression_evaluation.proofs.TwoSketches.{error_alone}
use Rattle.expression_evaluation.proofs.expressions.evaluate.Goals as goal

pub returns-in_err-result-clause-refused : goal.returns-in_err-result-clause-refused
returns-in_err-result-clause-refused g c =
    let lg = c.args.lg_k in
    let steps = c.args.steps.now in
    let values = values_of c.args.sketches.now in
    let p = err_from_is_err_and c.from_residual.result c.from_residual.ensures.1 in
    rw (p.1, p.2) (error_alone (evaluation_refusal c.args.seed lg steps c.args.sketches.now) (MayRefuse hash_rules lg values steps (Some [])) _ (λ refused. hashes_unrefused lg values steps (Some []) refused) c.in_err-result.ensures.refused)

pub returns-clause-refused : goal.returns-clause-refused
returns-clause-refused g c = subst (λ o. Refuses c.into_sketch.result o true) (sym c.in_ok-result.ensures.accepted) c.into_sketch.ensures.refused
