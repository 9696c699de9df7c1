use Rattle.std.proofs.Common.{◌-◌, ◌∙◌, sym, arith}
use Rattle.keys_reports.proofs.HumanCases.{unit_last, unit_enough, unit_greater}
use Rattle.keys_reports.proofs.human.+unit_from.Goals as goal

pub returns-then-more-eq0-clause-value : goal.returns-then-more-eq0-clause-value
returns-then-more-eq0-clause-value t c = sym (unit_last c.args.more c.args.unit c.args.width c.if-more-eq0.true)

pub returns-then-width-unit-clause-value : goal.returns-then-width-unit-clause-value
returns-then-width-unit-clause-value t c = sym (unit_enough c.args.more c.args.unit c.args.width c.if-width-unit.true)

pub returns-clause-value : goal.returns-clause-value
returns-clause-value t c = c.unit_from.ensures.value ∙ sym (unit_greater c.args.more (c.args.more - 1) c.args.unit c.args.width (omega (arith, c.if-more-eq0.false)) c.if-width-unit.false)
