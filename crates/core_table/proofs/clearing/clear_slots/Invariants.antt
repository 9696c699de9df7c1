use Rattle.std.proofs.Common.{◌≡◌, [], length, map, take}
use Rattle.core_slots.specs.SlotLayout.{filled}
use Rattle.core_table.proofs.clearing.clear_slots.Given as goal

-- the slots so far are free
abbrev pub invariant-loop-at : goal.invariant-loop-at
invariant-loop-at g l = (length l.slots.items ≡ l.size) × (filled (map g.E.PathEntry.content (take l.at l.slots.items)) ≡ [])
