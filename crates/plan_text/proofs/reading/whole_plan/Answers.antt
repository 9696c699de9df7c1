use Rattle.std.proofs.Common.{◌∙◌}
use Rattle.std.proofs.lemmas.Result.{err_from_is_err_and}
use Rattle.plan_text.specs.Reading.{says, plan_at}
use Rattle.plan_text.proofs.grammar.ReadMany.{fails_then}
use Rattle.plan_text.proofs.grammar.ReadNodes.{with_end, whole_is, ends_at, goes_past, no_lines, some_lines}
use Rattle.plan_text.proofs.reading.whole_plan.Goals as goal

pub returns-in_err-plan : goal.returns-in_err-plan
returns-in_err-plan g c =
    let p = err_from_is_err_and c.from_residual.result c.from_residual.ensures.1 in
    rw (p.1, p.2, whole_is g.row.A.Denot g.V.StepValue.as_value (says c.args.text.now))
    (fails_then c.in_err-plan.field-0.0 (plan_at {Z = g.row.A.Denot} g.V.StepValue.as_value 64 (says c.args.text.now)) (with_end g.row.A.Denot) c.in_err-plan.ensures)

pub returns-then-is_empty : goal.returns-then-is_empty
returns-then-is_empty g c =
    whole_is g.row.A.Denot g.V.StepValue.as_value (says c.args.text.now)
    ∙ ends_at g.row.A.Denot _ c.in_ok-plan.plan (says c.in_ok-plan.rest.now) c.in_ok-plan.ensures (no_lines c.in_ok-plan.rest.now c.if-is_empty.ensures)

pub returns-else-is_empty : goal.returns-else-is_empty
returns-else-is_empty g c =
    whole_is g.row.A.Denot g.V.StepValue.as_value (says c.args.text.now)
    ∙ goes_past g.row.A.Denot _ c.in_ok-plan.plan (says c.in_ok-plan.rest.now) c.in_ok-plan.ensures (some_lines c.in_ok-plan.rest.now c.if-is_empty.ensures)
