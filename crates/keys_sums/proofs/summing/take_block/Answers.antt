use Rattle.std.proofs.Common.{List, ℕ, [], ◌∷◌, ◌++◌, refl, sym, ap, ◌∙◌, subst, append_assoc}
use Rattle.std.specs.Prelude.{IfErr}
use Rattle.std.proofs.lemmas.Result.{err_from_is_err_and}
use Rattle.keys_lines.specs.Lines.{lines_after}
use Rattle.keys_sums.specs.Reading.{HasTaken}
use Rattle.keys_sums.specs.Refusals.{FailsIf, LacksNumberIn, IsPastIn}
use Rattle.keys_sums.proofs.Pieces.{taken_nothing, taken_line, taken_rest, lacking_line, past_block}
use Rattle.keys_sums.proofs.summing.take_block.Goals as goal

pub loop-piece-init : goal.loop-piece-init
loop-piece-init g c = ([], refl, λ front is. taken_nothing c.args.hashing c.args.amount front c.args.summation.now c.args.last.now c.args.count is)

pub loop-piece-preserved : goal.loop-piece-preserved
loop-piece-preserved g c =
    let inv = c.loop-piece.invariant in
    let line = c.in-Some.piece.now in (
      inv.0 ++ (line ++ 10 ∷ []),
      inv.1 ∙ ap (λ bs. inv.0 ++ bs) (c.in-Some.ensures.parts ∙ sym (append_assoc line (10 ∷ []) c.in-Some.others.now)) ∙ sym (append_assoc inv.0 (line ++ 10 ∷ []) c.in-Some.others.now),
      λ front is.
          let was = inv.2 front is in
          taken_line c.args.hashing c.args.amount front inv.0 line c.args.summation.now c.loop-piece.summation c.take_line.new.summation c.loop-piece.last c.take_line.new.last c.args.count c.loop-piece.count c.saturating_add-count.result was c.in-Some.ensures.line
          (c.in_ok-take_line.ensures.restarted was.left was.is_open) c.saturating_add-count.ensures
          (λ mode lg_k lines has. c.in_ok-take_line.ensures.added was.left was.is_open mode lg_k lines has),
    )

pub returns-clause-taken : goal.returns-clause-taken
returns-clause-taken g c = λ front is.
    let inv = c.loop-piece.invariant in
    let was = inv.2 front is in
    subst (λ (bs : List ℕ). HasTaken c.args.hashing c.args.amount front bs c.args.summation.now c.loop-piece.summation c.extend.new.self c.args.count c.loop-piece.count) (sym inv.1)
    (taken_rest c.args.hashing c.args.amount front inv.0 c.loop-piece.rest.now c.args.summation.now c.loop-piece.summation c.loop-piece.last c.extend.new.self c.args.count c.loop-piece.count was c.in_default.ensures.none (c.extend.ensures c.args.hashing was.left was.is_open))

pub returns-in_err-take_line-clause-numbered : goal.returns-in_err-take_line-clause-numbered
returns-in_err-take_line-clause-numbered g c = λ front more is.
    let p = err_from_is_err_and c.from_residual.result c.from_residual.ensures.1 in
    let inv = c.loop-piece.invariant in
    let was = inv.2 front is in
    let line = c.in-Some.piece.now in
    let lines = lines_after front (c.args.block.now ++ more) in
    subst (λ r. IfErr r (LacksNumberIn c.args.amount c.args.count lines)) (sym p.1) (subst (LacksNumberIn c.args.amount c.args.count lines) (sym p.2)
    (lacking_line c.args.hashing c.args.amount front inv.0 line c.in-Some.others.now more c.args.block.now c.args.count c.loop-piece.count c.in_err-take_line.field-0.0 c.args.summation.now c.loop-piece.summation c.loop-piece.last was
    c.in-Some.ensures.line (inv.1 ∙ ap (λ bs. inv.0 ++ bs) c.in-Some.ensures.parts) (c.in_err-take_line.ensures.number was.left was.is_open)))

pub returns-in_err-take_line-clause-past : goal.returns-in_err-take_line-clause-past
returns-in_err-take_line-clause-past g c = λ front more is mode lg_k lines has.
    let p = err_from_is_err_and c.from_residual.result c.from_residual.ensures.1 in
    let inv = c.loop-piece.invariant in
    let was = inv.2 front is in
    let line = c.in-Some.piece.now in
    let all = lines ++ lines_after front (c.args.block.now ++ more) in
    subst (λ r. IfErr r (IsPastIn mode c.args.hashing c.args.amount all)) (sym p.1) (subst (IsPastIn mode c.args.hashing c.args.amount all) (sym p.2)
    (past_block c.args.hashing c.args.amount mode lines front inv.0 line c.in-Some.others.now more c.args.block.now c.in_err-take_line.field-0.0 c.args.summation.now c.loop-piece.summation c.loop-piece.last c.args.count c.loop-piece.count was
    c.in-Some.ensures.line (inv.1 ∙ ap (λ bs. inv.0 ++ bs) c.in-Some.ensures.parts)
    (c.in_err-take_line.ensures.past was.left was.is_open mode lg_k (lines ++ was.ended) (was.added mode lg_k lines has))))

pub returns-in_err-take_line-clause-fallible : goal.returns-in_err-take_line-clause-fallible
returns-in_err-take_line-clause-fallible g c = λ may_fail.
    let p = err_from_is_err_and c.from_residual.result c.from_residual.ensures.1 in
    subst (λ r. IfErr r (FailsIf may_fail)) (sym p.1) (subst (FailsIf may_fail) (sym p.2) (c.in_err-take_line.ensures.fallible may_fail))
