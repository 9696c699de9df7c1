use Rattle.std.specs.Prelude.{string_bytes}
use Rattle.plan_text.specs.declared.command.Command.TheVariants.{Tuple}
use Rattle.plan_runs.proofs.answering.CommandAnswers.{answers_tuples, answers_refused}
use Rattle.plan_runs.proofs.answer.tuple_answer.Goals as goal

pub returns-in_ok-text-in-Ok : goal.returns-in_ok-text-in-Ok
returns-in_ok-text-in-Ok g c = answers_tuples c.args.form c.args.plan.now c.in-Ok.sketch (string_bytes c.in_ok-text-in-Ok.text) c.in-Ok.ensures.plan.accepted c.in-Ok.ensures.plan.unrefused c.in-Ok.ensures.plan.value c.in_ok-text-in-Ok.ensures

pub returns-in-Err : goal.returns-in-Err
returns-in-Err g c = answers_refused (Tuple c.args.form c.args.plan.now) c.in-Err.refused (λ x. x.0) (λ x. string_bytes x.1) c.refused_text.result c.in-Err.ensures.plan.refused c.refused_text.ensures
