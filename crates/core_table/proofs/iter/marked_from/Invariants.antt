use Rattle.std.proofs.Common.{◌≡◌, map, length}
use Rattle.core_slots.specs.SlotLayout.{filled}
use Rattle.core_table.specs.Marks.{under}
use Rattle.core_table.proofs.iter.marked_from.Given as goal

-- the passed slots have no entries under the bound
abbrev pub invariant-loop-bound : goal.invariant-loop-bound
invariant-loop-bound g l = filled (map (under g.E.SketchEntry.key l.bound g.E.PathEntry.content) l.left) ≡ filled (map (under g.E.SketchEntry.key l.bound g.E.PathEntry.content) l.slots)

-- the remaining slots
abbrev pub decreases-loop-bound : goal.decreases-loop-bound
decreases-loop-bound g l = length l.left
