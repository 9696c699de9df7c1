use Rattle.std.proofs.Common.{◌≡◌, ℕ, ◌<◌, get_or, true}
use Rattle.expression_text.specs.Tokens.{is_word_byte}
use Rattle.expression_text.proofs.tokens.split_word.Given as goal

-- a word may have the bytes so far
abbrev pub invariant-loop-i : goal.invariant-loop-i
invariant-loop-i l = (k : ℕ) → k < l.i → is_word_byte (get_or l.text k 0) ≡ true
