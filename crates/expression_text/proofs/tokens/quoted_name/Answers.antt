use Rattle.expression_text.proofs.SplitTokens.{quoted, not_nil, is_nil}
use Rattle.expression_text.proofs.NextToken.{open_quote, empty_name}
use Rattle.expression_text.proofs.tokens.quoted_name.Goals as goal

pub returns-clause-token : goal.returns-clause-token
returns-clause-token c = quoted c.args.text.now c.in-Some.name.now c.in-Some.rest.now c.in-Some.ensures.parts c.in-Some.ensures.before (not_nil c.in-Some.name.now c.if-is_empty.ensures)

pub returns-in_default-clause-refused : goal.returns-in_default-clause-refused
returns-in_default-clause-refused c = open_quote c.args.text.now c.in_default.ensures.none

pub returns-then-is_empty-clause-refused : goal.returns-then-is_empty-clause-refused
returns-then-is_empty-clause-refused c =
    empty_name c.args.text.now c.in-Some.name.now c.in-Some.rest.now c.in-Some.ensures.parts (is_nil c.in-Some.name.now c.if-is_empty.ensures)
