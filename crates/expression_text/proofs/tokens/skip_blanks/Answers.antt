use Rattle.std.proofs.Common.{◌++◌, take, sym, ap, ◌∙◌, arith, length-take-le, take-append-drop}
use Rattle.expression_text.proofs.SplitTokens.{blanks_before, blanks_alone, no_blank_at}
use Rattle.expression_text.proofs.tokens.skip_blanks.Goals as goal

pub returns-then-not-is_blank-clause-blanks : goal.returns-then-not-is_blank-clause-blanks
returns-then-not-is_blank-clause-blanks c =
    let text = c.args.text.now in
    let i = c.loop-i.i in
    blanks_before text (take i text) c.split_at.result.1.now i (sym (take-append-drop i text) ∙ ap (λ r. take i text ++ r) (sym c.split_at.ensures.back)) (length-take-le i text c.loop-i.auto.i-end) c.loop-i.invariant

pub returns-then-not-is_blank-clause-trimmed : goal.returns-then-not-is_blank-clause-trimmed
returns-then-not-is_blank-clause-trimmed c =
    let text = c.args.text.now in
    let i = c.loop-i.i in
    no_blank_at text (take i text) c.split_at.result.1.now i (sym (take-append-drop i text) ∙ ap (λ r. take i text ++ r) (sym c.split_at.ensures.back)) (length-take-le i text c.loop-i.auto.i-end) (sym c.is_blank.ensures ∙ c.if-not-is_blank.true)

pub returns-clause-blanks : goal.returns-clause-blanks
returns-clause-blanks c = let le = c.loop-i-test.false in blanks_alone c.args.text.now c.loop-i.i (omega arith) c.loop-i.invariant
