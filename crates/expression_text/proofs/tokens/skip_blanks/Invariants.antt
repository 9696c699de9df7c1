use Rattle.std.proofs.Common.{◌≡◌, ℕ, ◌<◌, get_or, true}
use Rattle.expression_text.specs.Tokens.{is_blank}
use Rattle.expression_text.proofs.tokens.skip_blanks.Given as goal

-- the bytes so far are blank
abbrev pub invariant-loop-i : goal.invariant-loop-i
invariant-loop-i l = (k : ℕ) → k < l.i → is_blank (get_or l.text k 0) ≡ true
