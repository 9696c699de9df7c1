use Rattle.std.proofs.Common.{◌≡◌, ℕ, ◌<◌, ◌≤◌, ◌-◌, get_or, length}
use Rattle.keys_lines.proofs.cut.cut_at.Given as goal

-- the byte does not occur before `from`
abbrev pub invariant-loop-from : goal.invariant-loop-from
invariant-loop-from l = record {
  within : l.from ≤ length l.text;
  none : (k : ℕ) → k < l.from → get_or l.text k 0 ≡ l.byte → ⊥;
}

abbrev pub decreases-loop-from : goal.decreases-loop-from
decreases-loop-from l = length l.text - l.from

abbrev pub invariant-loop-from-2 : goal.invariant-loop-from-2
invariant-loop-from-2 l = record {
  within : l.from ≤ length l.text;
  none : (k : ℕ) → k < l.from → get_or l.text k 0 ≡ l.byte → ⊥;
}

abbrev pub decreases-loop-from-2 : goal.decreases-loop-from-2
decreases-loop-from-2 l = length l.text - l.from

abbrev pub invariant-loop-i : goal.invariant-loop-i
invariant-loop-i l = (k : ℕ) → k < l.i → get_or l.text k 0 ≡ l.byte → ⊥
