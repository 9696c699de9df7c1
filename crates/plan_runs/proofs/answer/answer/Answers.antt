use Rattle.plan_runs.specs.Answer.{wrong, too_deep}
use Rattle.plan_runs.proofs.answer.answer.Goals as goal

pub returns-in_ok-fault_text-in-Err-Syntax : goal.returns-in_ok-fault_text-in-Err-Syntax
returns-in_ok-fault_text-in-Err-Syntax g c = rw c.in_ok-fault_text-in-Err-Syntax.ensures (wrong c.in-Err-Syntax.line (rw c.in-Err-Syntax.field-0-is at c.in-Err-Syntax.ensures.fault))

pub returns-in_ok-fault_text-in-Err-Limit : goal.returns-in_ok-fault_text-in-Err-Limit
returns-in_ok-fault_text-in-Err-Limit g c = rw c.in_ok-fault_text-in-Err-Limit.ensures (too_deep c.in-Err-Limit.line (rw c.in-Err-Limit.field-0-is at c.in-Err-Limit.ensures.fault))
