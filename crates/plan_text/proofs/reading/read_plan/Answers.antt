use Rattle.plan_text.specs.Reading.{says, syntax, limit}
use Rattle.std.proofs.Common.{length}
use Rattle.plan_text.proofs.faults.WholeText.{is_spelled, only_it, not_spelled, syntax_at, limit_at}
use Rattle.plan_text.proofs.reading.read_plan.Goals as goal

pub returns-in-Ok-clause-spelled : goal.returns-in-Ok-clause-spelled
returns-in-Ok-clause-spelled g c = is_spelled g.row.A.Denot c.args.text.now c.in-Ok.command c.in-Ok.ensures

pub returns-in-Ok-clause-only : goal.returns-in-Ok-clause-only
returns-in-Ok-clause-only g c = λ command s. only_it g.row.A.Denot c.args.text.now c.in-Ok.command command c.in-Ok.ensures s

pub returns-in-Err-Syntax-clause-only : goal.returns-in-Err-Syntax-clause-only
returns-in-Err-Syntax-clause-only g c = λ command s. absurd (not_spelled g.row.A.Denot c.args.text.now (syntax (length (says c.in-Err-Syntax.rest.now))) command (rw c.in-Err-Syntax.field-0-is at c.in-Err-Syntax.ensures) s)

pub returns-in-Err-Syntax-clause-fault : goal.returns-in-Err-Syntax-clause-fault
returns-in-Err-Syntax-clause-fault g c = syntax_at g.row.A.Denot c.args.text.now c.in-Err-Syntax.rest.now c.line_number.result (rw c.in-Err-Syntax.field-0-is at c.in-Err-Syntax.ensures) c.line_number.ensures

pub returns-clause-only : goal.returns-clause-only
returns-clause-only g c = λ command s. absurd (not_spelled g.row.A.Denot c.args.text.now (limit (length (says c.in-Err-Limit.rest.now))) command (rw c.in-Err-Limit.field-0-is at c.in-Err-Limit.ensures) s)

pub returns-clause-fault : goal.returns-clause-fault
returns-clause-fault g c = limit_at g.row.A.Denot c.args.text.now c.in-Err-Limit.rest.now c.line_number-in-Err-Limit.result (rw c.in-Err-Limit.field-0-is at c.in-Err-Limit.ensures) c.line_number-in-Err-Limit.ensures
