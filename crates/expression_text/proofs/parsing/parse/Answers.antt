use Rattle.std.proofs.Common.{◌∙◌, ap, map}
use Rattle.std.proofs.lemmas.Result.{err_from_is_err_and}
use Rattle.expression_text.proofs.Shapes.{unended}
use Rattle.expression_text.proofs.parsing.parse.Goals as goal

pub returns-in_err-put_all-clause-unspelled : goal.returns-in_err-put_all-clause-unspelled
returns-in_err-put_all-clause-unspelled g c =
    let p = err_from_is_err_and c.from_residual.result c.from_residual.ensures.1 in
    rw p.1 (λ other. c.in_err-put_all.ensures.unspelled c.in-Ok.ensures.nothing (λ memory. other (ap (λ f. f.reason) p.2 ∙ memory)))

pub returns-clause-unspelled : goal.returns-clause-unspelled
returns-clause-unspelled g c = λ other.
    let s = c.put_all.new.self in
    let read = c.in_ok-put_all.ensures.tokens c.in-Ok.ensures.nothing in
    unended c.args.text.now read.0 (map (λ v. v.items) s.names.items) s.pending.items s.steps.items s.levels s.after_operand read.1 read.2 (c.in-Err-finish.ensures.refused read.0 read.2 other)
