use Rattle.std.proofs.Common.{◌≡◌, ◌++◌, ◌+◌, ◌∙◌, sym, false, drop, rules, arith}
use Rattle.keys_fields.proofs.Words.{spaced, blank_read, byte_read, all_read}
use Rattle.keys_fields.proofs.layout.push_words.Goals.{then-is_blank, else-is_blank+in_ok-push_spaced}
use Rattle.keys_fields.proofs.layout.push_words.Goals as goal

pub returns : goal.returns
returns c = all_read c.args.to.now.items c.args.line.now c.loop-i.is_behind c.loop-i.is_due c.loop-i.i c.loop-i.to.items (omega (arith, c.loop-i-test.false)) c.loop-i.invariant

pub loop-i-preserved : goal.loop-i-preserved
loop-i-preserved c =
    let old = c.args.to.now.items in
    let line = c.args.line.now in
    elim c.if-is_blank.branch as (λ _. old ++ spaced false false line ≡ c.if-is_blank.to.items ++ spaced c.if-is_blank.is_behind c.if-is_blank.is_due (drop (c.loop-i.i + 1) line)) [
      | then-is_blank w ↦ rw (w.to-is, w.is_behind-is, w.is_due-is) (
          blank_read old line c.loop-i.is_behind c.loop-i.is_due c.loop-i.i c.loop-i.to.items (omega (arith, c.loop-i-test.true)) c.loop-i.invariant (sym c.is_blank.ensures ∙ w.if-is_blank.true))
      | else-is_blank+in_ok-push_spaced w ↦ rw (w.to-is, w.is_behind-is, w.is_due-is) (
          byte_read old line c.loop-i.is_behind c.loop-i.is_due c.loop-i.i c.loop-i.to.items (omega (arith, c.loop-i-test.true)) c.loop-i.invariant (sym c.is_blank.ensures ∙ w.if-is_blank.false) w.push_spaced.new.to.items (search rules))
    ]
