use Rattle.std.proofs.Common.{◌≡◌, ◌++◌, [], take, sym, ap, subst, ◌∙◌, arith}
use Rattle.std.specs.Prelude.{IfErr, IfSome}
use Rattle.std.proofs.lemmas.List.{append-nil}
use Rattle.std.proofs.lemmas.Result.{err_from_is_err_and}
use Rattle.std.proofs.KnownBytes.{Consumes-nil, Consumes-whole, Consumes-trans, Consumes-kept}
use Rattle.keys_lines.specs.Lines.{lines_of}
use Rattle.keys_sums.specs.Sums.{HasAdded}
use Rattle.keys_sums.specs.Refusals.{FailsIf, LacksNumberAt, IsPastIn}
use Rattle.keys_sums.proofs.Pieces.{taken_nothing, taken_both, taken_all, lacking_end, lacking_text, past_end, past_text}
use Rattle.keys_sums.proofs.summing.add_lines.Goals.{in-Ok+in_ok-count-in-Ok, in-Err+else-ne}
use Rattle.keys_sums.proofs.summing.add_lines.Goals as goal

pub loop-init : goal.loop-init
loop-init g c = ([], Consumes-nil (g.R.Read.remaining c.args.reader.now), taken_nothing c.args.hashing c.args.amount [] c.args.summation.now c.new-last.result 0 (c.new-last.ensures c.args.amount))

pub returns-in-Ok-eq0-clause-added : goal.returns-in-Ok-eq0-clause-added
returns-in-Ok-eq0-clause-added g c = λ mode lg_k lines has.
    let inv = c.loop.invariant in
    let all = inv.0 ++ take c.in-Ok-eq0.field-0 c.read.new.buf in
    let none : all ≡ inv.0 = ap (λ n. inv.0 ++ take n c.read.new.buf) c.in-Ok-eq0.field-0-test ∙ append-nil inv.0 in
    let taken = inv.2 in
    Consumes-whole (g.R.Read.remaining c.args.reader.now) (g.R.Read.remaining c.read.new.self) all _
    (Consumes-trans (g.R.Read.remaining c.args.reader.now) (g.R.Read.remaining c.loop.reader) (g.R.Read.remaining c.read.new.self) inv.0 (take c.in-Ok-eq0.field-0 c.read.new.buf) inv.1 c.in-Ok-eq0.ensures.bytes.0)
    (c.in-Ok-eq0.ensures.bytes.1 c.in-Ok-eq0.field-0-test (omega arith))
    (subst (λ bs. HasAdded mode c.args.hashing c.args.amount lg_k (lines ++ lines_of bs) c.take_last.new.summation) (sym none)
    (taken_all c.args.hashing c.args.amount mode lg_k lines inv.0 c.args.summation.now c.loop.summation c.take_last.new.summation c.loop.last 0 c.loop.count taken
    (c.in_ok-take_last-in-Ok-eq0.ensures.taken c.args.hashing taken.left taken.is_open mode lg_k (lines ++ taken.ended) (taken.added mode lg_k lines has))))

pub loop-preserved : goal.loop-preserved
loop-preserved g c = let inv = c.loop.invariant in elim c.match-read.branch [
  | in-Ok+in_ok-count-in-Ok w ↦
      let block = take w.in-Ok.length c.read.new.buf in
      rw (w.last-is, w.summation-is, w.count-is) (
        inv.0 ++ block,
        Consumes-trans (g.R.Read.remaining c.args.reader.now) (g.R.Read.remaining c.loop.reader) (g.R.Read.remaining c.read.new.self) inv.0 block inv.1 w.in-Ok.ensures.bytes.0,
        taken_both c.args.hashing c.args.amount [] inv.0 block c.args.summation.now c.loop.summation w.take_block.new.summation c.loop.last w.take_block.new.last 0 c.loop.count w.in_ok-count-in-Ok.count inv.2
            (w.in_ok-count-in-Ok.ensures.taken inv.2.left inv.2.is_open),
      )
  | in-Err+else-ne w ↦
      rw (w.last-is, w.summation-is, w.count-is) (
        inv.0,
        Consumes-kept (g.R.Read.remaining c.args.reader.now) (g.R.Read.remaining c.loop.reader) (g.R.Read.remaining c.read.new.self) inv.0 inv.1 w.in-Err.ensures.bytes,
        inv.2,
      )
]

pub returns-in_err-take_last-in-Ok-eq0-clause-numbered : goal.returns-in_err-take_last-in-Ok-eq0-clause-numbered
returns-in_err-take_last-in-Ok-eq0-clause-numbered g c =
    let inv = c.loop.invariant in
    let known = g.R.Read.remaining c.args.reader.now in
    let left = g.R.Read.remaining c.read.new.self in
    let amount = c.args.amount in
    let u = c.in_err-take_last-in-Ok-eq0.field-0.0 in
    let p = err_from_is_err_and c.from_residual.result c.from_residual.ensures.1 in
    let all = inv.0 ++ take c.in-Ok-eq0.field-0 c.read.new.buf in
    let none : all ≡ inv.0 = ap (λ n. inv.0 ++ take n c.read.new.buf) c.in-Ok-eq0.field-0-test ∙ append-nil inv.0 in
    subst (λ r. IfSome known (λ text. IfErr r (LacksNumberAt amount text))) (sym p.1) (subst (λ v. IfSome known (λ text. LacksNumberAt amount text v)) (sym p.2)
    (Consumes-whole known left all (λ text. LacksNumberAt amount text u)
    (Consumes-trans known (g.R.Read.remaining c.loop.reader) left inv.0 (take c.in-Ok-eq0.field-0 c.read.new.buf) inv.1 c.in-Ok-eq0.ensures.bytes.0)
    (c.in-Ok-eq0.ensures.bytes.1 c.in-Ok-eq0.field-0-test (omega arith))
    (subst (λ bs. LacksNumberAt amount bs u) (sym none)
    (lacking_end c.args.hashing amount inv.0 u c.args.summation.now c.loop.summation c.loop.last c.loop.count inv.2 (c.in_err-take_last-in-Ok-eq0.ensures.numbered c.args.hashing inv.2.left inv.2.is_open)))))

pub returns-in_err-count-in-Ok-clause-numbered : goal.returns-in_err-count-in-Ok-clause-numbered
returns-in_err-count-in-Ok-clause-numbered g c =
    let inv = c.loop.invariant in
    let known = g.R.Read.remaining c.args.reader.now in
    let left = g.R.Read.remaining c.read.new.self in
    let amount = c.args.amount in
    let block = take c.in-Ok.length c.read.new.buf in
    let u = c.in_err-count-in-Ok.field-0.0 in
    let p = err_from_is_err_and c.from_residual-in_err-count-in-Ok.result c.from_residual-in_err-count-in-Ok.ensures.1 in
    subst (λ r. IfSome known (λ text. IfErr r (LacksNumberAt amount text))) (sym p.1) (subst (λ v. IfSome known (λ text. LacksNumberAt amount text v)) (sym p.2)
    (lacking_text c.args.hashing amount known left inv.0 block u c.args.summation.now c.loop.summation c.loop.last c.loop.count inv.2
    (Consumes-trans known (g.R.Read.remaining c.loop.reader) left inv.0 block inv.1 c.in-Ok.ensures.bytes.0)
    (λ more. c.in_err-count-in-Ok.ensures.numbered inv.2.left more inv.2.is_open)))

pub returns-in_err-take_last-in-Ok-eq0-clause-past : goal.returns-in_err-take_last-in-Ok-eq0-clause-past
returns-in_err-take_last-in-Ok-eq0-clause-past g c = λ mode lg_k lines has.
    let inv = c.loop.invariant in
    let known = g.R.Read.remaining c.args.reader.now in
    let left = g.R.Read.remaining c.read.new.self in
    let hashing = c.args.hashing in
    let amount = c.args.amount in
    let u = c.in_err-take_last-in-Ok-eq0.field-0.0 in
    let p = err_from_is_err_and c.from_residual.result c.from_residual.ensures.1 in
    let all = inv.0 ++ take c.in-Ok-eq0.field-0 c.read.new.buf in
    let none : all ≡ inv.0 = ap (λ n. inv.0 ++ take n c.read.new.buf) c.in-Ok-eq0.field-0-test ∙ append-nil inv.0 in
    subst (λ r. IfSome known (λ text. IfErr r (IsPastIn mode hashing amount (lines ++ lines_of text)))) (sym p.1) (subst (λ v. IfSome known (λ text. IsPastIn mode hashing amount (lines ++ lines_of text) v)) (sym p.2)
    (Consumes-whole known left all (λ text. IsPastIn mode hashing amount (lines ++ lines_of text) u)
    (Consumes-trans known (g.R.Read.remaining c.loop.reader) left inv.0 (take c.in-Ok-eq0.field-0 c.read.new.buf) inv.1 c.in-Ok-eq0.ensures.bytes.0)
    (c.in-Ok-eq0.ensures.bytes.1 c.in-Ok-eq0.field-0-test (omega arith))
    (subst (λ bs. IsPastIn mode hashing amount (lines ++ lines_of bs) u) (sym none)
    (past_end hashing amount mode lines inv.0 u c.args.summation.now c.loop.summation c.loop.last 0 c.loop.count inv.2
    (c.in_err-take_last-in-Ok-eq0.ensures.past hashing inv.2.left inv.2.is_open mode lg_k (lines ++ inv.2.ended) (inv.2.added mode lg_k lines has))))))

pub returns-in_err-count-in-Ok-clause-past : goal.returns-in_err-count-in-Ok-clause-past
returns-in_err-count-in-Ok-clause-past g c = λ mode lg_k lines has.
    let inv = c.loop.invariant in
    let known = g.R.Read.remaining c.args.reader.now in
    let left = g.R.Read.remaining c.read.new.self in
    let hashing = c.args.hashing in
    let amount = c.args.amount in
    let block = take c.in-Ok.length c.read.new.buf in
    let u = c.in_err-count-in-Ok.field-0.0 in
    let p = err_from_is_err_and c.from_residual-in_err-count-in-Ok.result c.from_residual-in_err-count-in-Ok.ensures.1 in
    subst (λ r. IfSome known (λ text. IfErr r (IsPastIn mode hashing amount (lines ++ lines_of text)))) (sym p.1) (subst (λ v. IfSome known (λ text. IsPastIn mode hashing amount (lines ++ lines_of text) v)) (sym p.2)
    (past_text hashing amount mode lines known left inv.0 block u c.args.summation.now c.loop.summation c.loop.last 0 c.loop.count inv.2
    (Consumes-trans known (g.R.Read.remaining c.loop.reader) left inv.0 block inv.1 c.in-Ok.ensures.bytes.0)
    (λ more. c.in_err-count-in-Ok.ensures.past inv.2.left more inv.2.is_open mode lg_k (lines ++ inv.2.ended) (inv.2.added mode lg_k lines has))))

pub returns-in_err-take_last-in-Ok-eq0-clause-fallible : goal.returns-in_err-take_last-in-Ok-eq0-clause-fallible
returns-in_err-take_last-in-Ok-eq0-clause-fallible g c =
    let fails = FailsIf g.R.TextReader.may_fail in
    let p = err_from_is_err_and c.from_residual.result c.from_residual.ensures.1 in
    subst (λ r. IfErr r fails) (sym p.1) (subst fails (sym p.2) (c.in_err-take_last-in-Ok-eq0.ensures.fallible g.R.TextReader.may_fail))

pub returns-in_err-count-in-Ok-clause-fallible : goal.returns-in_err-count-in-Ok-clause-fallible
returns-in_err-count-in-Ok-clause-fallible g c =
    let fails = FailsIf g.R.TextReader.may_fail in
    let p = err_from_is_err_and c.from_residual-in_err-count-in-Ok.result c.from_residual-in_err-count-in-Ok.ensures.1 in
    subst (λ r. IfErr r fails) (sym p.1) (subst fails (sym p.2) (c.in_err-count-in-Ok.ensures.fallible g.R.TextReader.may_fail))
