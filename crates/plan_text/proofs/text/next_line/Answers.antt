use Rattle.std.proofs.Common.{ap, ◌∙◌}
use Rattle.keys_lines.specs.Lines.{lines_of}
use Rattle.plan_text.proofs.words.Separators.{lines_last, lines_some, not_empty}
use Rattle.plan_text.proofs.text.next_line.Goals as goal

pub returns-in_default : goal.returns-in_default
returns-in_default c = lines_last c.args.text.now (not_empty c.args.text.now c.if-is_empty.ensures) c.in_default.ensures.none

pub returns : goal.returns
returns c = ap lines_of c.in-Some.ensures.parts ∙ lines_some c.in-Some.line.now c.in-Some.rest.now c.in-Some.ensures.before
