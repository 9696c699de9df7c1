use Rattle.std.proofs.Common.{◌≤◌, length}
use Rattle.keys_lines.proofs.KeyPlaces.{IsFieldStart}
use Rattle.keys_lines.proofs.field.key_place.Given as goal

-- a field of the line begins at `start`, and `left` more are before the key
abbrev pub invariant-loop-left : goal.invariant-loop-left
invariant-loop-left l = record {
  near : l.start ≤ l.most;
  place : (whole : l.count ≤ length l.text) → IsFieldStart l.separator l.text l.count whole l.before l.start l.left;
}

abbrev pub decreases-loop-left : goal.decreases-loop-left
decreases-loop-left l = l.left
