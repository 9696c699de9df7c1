use Rattle.std.proofs.Common.{◌≡◌, ◌++◌, ℕ, List, length}
use Rattle.core_images.specs.Entry.{SpellsEach}
use Rattle.core_images.specs.Summary.{SpellsTuple}
use Rattle.core_images.proofs.summary.TupleSummaryValue.deserialize_entries.Given as goal

-- the bytes that were read spell the entries so far
abbrev pub invariant-loop-i : goal.invariant-loop-i
invariant-loop-i g l = (text : List ℕ) × (l.bytes ≡ text ++ l.slice) × SpellsEach (SpellsTuple g.Self.TupleSummaryValue.spells) text l.entries.items × (length l.entries.items ≡ l._i)
