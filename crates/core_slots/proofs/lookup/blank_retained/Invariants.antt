use Rattle.std.proofs.Common.{◌≡◌, ℕ, ◌<◌, ◌≤◌, map, get_or}
use Rattle.core_slots.specs.SlotLayout.{filled}
use Rattle.core_slots.specs.Lookup.{IsBlanked}
use Rattle.core_slots.proofs.lookup.blank_retained.Given as goal

-- the hashes so far are blanked, and the others are unchanged
abbrev pub invariant-loop-hash : goal.invariant-loop-hash
invariant-loop-hash g l = record {
  done : (p : ℕ) → p < l.hash-index → IsBlanked g.E.SketchEntry.key (filled (map g.E.PathEntry.content l.slots)) (get_or l.initial.hashes p 0) (get_or l.hashes p 0);
  others : (p : ℕ) → l.hash-index ≤ p → get_or l.hashes p 0 ≡ get_or l.initial.hashes p 0;
}
