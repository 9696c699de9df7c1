use Rattle.std.proofs.lemmas.Result.{err_from_is_err_and}
use Rattle.plan_text.specs.Reading.{says, many, step_at}
use Rattle.plan_text.proofs.grammar.ReadMany.{goes_on, ends, is_done}
use Rattle.plan_text.proofs.descent.steps.Goals as goal

pub returns-in_err-step : goal.returns-in_err-step
returns-in_err-step g c =
    let p = err_from_is_err_and c.from_residual-in_err-step.result c.from_residual-in_err-step.ensures.1 in
    rw (p.1, p.2) (ends (step_at g.V.StepValue.as_value) c.in_err-step.field-0.0 c.loop.steps.items c.args.count c.loop.counter (says c.loop.rest.now) (many (step_at g.V.StepValue.as_value) c.args.count (says c.args.text.now)) c.loop-test.true c.in_err-step.ensures c.loop.invariant)

pub loop-preserved : goal.loop-preserved
loop-preserved g c =
    rw c.in_ok-push.ensures.items (goes_on (step_at g.V.StepValue.as_value) c.loop.steps.items c.args.count c.loop.counter (says c.loop.rest.now) c.in_ok-step.step (says c.in_ok-step.after.now) (many (step_at g.V.StepValue.as_value) c.args.count (says c.args.text.now)) c.loop-test.true c.in_ok-step.ensures c.loop.invariant)

pub returns : goal.returns
returns g c = is_done (step_at g.V.StepValue.as_value) c.loop.steps.items c.args.count c.loop.counter (says c.loop.rest.now) (many (step_at g.V.StepValue.as_value) c.args.count (says c.args.text.now)) c.loop-test.false c.loop.invariant
