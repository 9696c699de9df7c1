use Rattle.plan_text.specs.Reading.{says, theta_value, tuple_value, command_at}
use Rattle.plan_text.proofs.grammar.ReadMany.{passes_on}
use Rattle.plan_text.proofs.grammar.ReadNodes.{command_fails, plan_refused, plan_there, at_theta, at_tuple}
use Rattle.plan_text.proofs.reading.command.Goals as goal

pub returns-in_err-family : goal.returns-in_err-family
returns-in_err-family g c = passes_on _ _ c.in_err-family.field-0.0 (command_at (says c.args.text.now)) c.from_residual.ensures.1 (command_fails g.row.A.Denot c.in_err-family.field-0.0 (says c.args.text.now) c.in_err-family.ensures)

-- ---- a plan of theta sketches

pub returns-in_err-plan-in-Theta : goal.returns-in_err-plan-in-Theta
returns-in_err-plan-in-Theta g c = plan_refused _ theta_value _ _ _ c.in_err-plan-in-Theta.field-0.0 _ _ c.from_residual-in_err-plan-in-Theta.ensures.1 (at_theta g.row.A.Denot _ _ _ _ c.in_ok-family.ensures c.in-Theta.is) c.in_err-plan-in-Theta.ensures

pub returns-in_ok-plan-in-Theta : goal.returns-in_ok-plan-in-Theta
returns-in_ok-plan-in-Theta g c = plan_there _ theta_value _ _ _ _ (at_theta g.row.A.Denot _ _ _ _ c.in_ok-family.ensures c.in-Theta.is) c.in_ok-plan-in-Theta.ensures

-- ---- a plan of tuple sketches

pub returns-in_err-plan-in-Tuple : goal.returns-in_err-plan-in-Tuple
returns-in_err-plan-in-Tuple g c = plan_refused _ tuple_value _ _ _ c.in_err-plan-in-Tuple.field-0.0 _ _ c.from_residual-in_err-plan-in-Tuple.ensures.1 (at_tuple g.row.A.Denot _ _ _ _ c.in_ok-family.ensures c.in-Tuple.is) c.in_err-plan-in-Tuple.ensures

pub returns-in_ok-plan-in-Tuple : goal.returns-in_ok-plan-in-Tuple
returns-in_ok-plan-in-Tuple g c = plan_there _ tuple_value _ _ _ _ (at_tuple g.row.A.Denot _ _ _ _ c.in_ok-family.ensures c.in-Tuple.is) c.in_ok-plan-in-Tuple.ensures
