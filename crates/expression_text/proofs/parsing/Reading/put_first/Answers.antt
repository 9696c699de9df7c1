use Rattle.std.proofs.Common.{◌≡◌, ◌∙◌, [], List, ℕ, Option, subst}
use Rattle.std.specs.Prelude.{MatchOption}
use Rattle.expression_text.specs.Tokens.{IsToken, lexeme_of}
use Rattle.expression_text.specs.declared.tokens.Token.{Token}
use denote.Ref.{Bor}
use Rattle.std.proofs.lemmas.Result.{err_from_is_err_and}
use Rattle.expression_text.proofs.Shapes.{only_token}
use Rattle.expression_text.proofs.parsing.Reading.put_first.Goals as goal

pub returns-in_ok-put-in-Some-clause-token : goal.returns-in_ok-put-in-Some-clause-token
returns-in_ok-put-in-Some-clause-token g c = λ tokens reading.
    let token = subst (λ (o : Option (Token × Bor (List ℕ))). MatchOption o (c.args.text.now ≡ []) (λ x. IsToken (lexeme_of x.0) c.args.text.now x.1.now)) c.in-Some.is c.in_ok-first_token.ensures.token in
    (lexeme_of c.in-Some.token, token, c.in_ok-put-in-Some.ensures.reads tokens reading)

pub returns-in_err-first_token-clause-refused : goal.returns-in_err-first_token-clause-refused
returns-in_err-first_token-clause-refused g c = λ tokens reading trimmed.
    let p = err_from_is_err_and c.from_residual.result c.from_residual.ensures.1 in
    rw p.1 (λ other t rest token follow. c.in_err-first_token.ensures.refused trimmed t rest token)

pub returns-in_err-put-in-Some-clause-refused : goal.returns-in_err-put-in-Some-clause-refused
returns-in_err-put-in-Some-clause-refused g c = λ tokens reading trimmed.
    let p = err_from_is_err_and c.from_residual-in_err-put-in-Some.result c.from_residual-in_err-put-in-Some.ensures.1 in
    let text = c.args.text.now in
    let token = subst (λ (o : Option (Token × Bor (List ℕ))). MatchOption o (text ≡ []) (λ x. IsToken (lexeme_of x.0) text x.1.now)) c.in-Some.is c.in_ok-first_token.ensures.token in
    rw p.1 (λ other. only_token text c.in-Some.rest.now (lexeme_of c.in-Some.token) c.args.self.now.levels c.args.self.now.after_operand token (c.in_err-put-in-Some.ensures.refused tokens reading (λ memory. other (p.2 ∙ memory))))
