use Rattle.std.proofs.lemmas.Result.{err_from_is_err_and}
use Rattle.expression_text.proofs.SplitTokens.{either_union, quote_lacks}
use Rattle.expression_text.proofs.tokens.first_token.Goals as goal

pub returns-in-43-clause-token : goal.returns-in-43-clause-token
returns-in-43-clause-token c = either_union c.args.text.now c.in-Some.rest.now c.in-Some.first.now c.in-Some.ensures.cases.0 c.in-43.is

pub returns-in_err-quoted_name-in-34-clause-refused : goal.returns-in_err-quoted_name-in-34-clause-refused
returns-in_err-quoted_name-in-34-clause-refused c = λ trimmed.
    let p = err_from_is_err_and c.from_residual.result c.from_residual.ensures.1 in
    rw p.1 (quote_lacks c.args.text.now c.in-Some.rest.now c.in-Some.first.now c.in-Some.ensures.cases.0 c.in-34.is c.in_err-quoted_name-in-34.ensures.refused)
