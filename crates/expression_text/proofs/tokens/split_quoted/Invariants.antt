use Rattle.std.proofs.Common.{◌≡◌, ℕ, ◌<◌, get_or}
use Rattle.expression_text.proofs.tokens.split_quoted.Given as goal

-- no quote is among the bytes so far
abbrev pub invariant-loop-i : goal.invariant-loop-i
invariant-loop-i l = (k : ℕ) → k < l.i → get_or l.text k 0 ≡ 34 → ⊥
