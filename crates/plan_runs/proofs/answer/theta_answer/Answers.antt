use Rattle.std.specs.Prelude.{string_bytes}
use Rattle.plan_text.specs.declared.command.Command.TheVariants.{Theta}
use Rattle.plan_runs.proofs.answering.CommandAnswers.{answers_value, theta_refused, answers_refused}
use Rattle.plan_runs.proofs.answer.theta_answer.Goals as goal

pub returns-in_ok-text-in-Ok : goal.returns-in_ok-text-in-Ok
returns-in_ok-text-in-Ok g c = answers_value c.args.form c.args.plan.now c.in-Ok.sketch (string_bytes c.in_ok-text-in-Ok.text) c.in-Ok.ensures.plan.refused c.in-Ok.ensures.plan.value c.in_ok-text-in-Ok.ensures

pub returns-in-Err : goal.returns-in-Err
returns-in-Err g c = answers_refused (Theta c.args.form c.args.plan.now) c.in-Err.refused (λ x. x.0) (λ x. string_bytes x.1) c.refused_text.result (theta_refused c.args.form c.args.plan.now c.in-Err.refused c.in-Err.ensures.plan.refused) c.refused_text.ensures
