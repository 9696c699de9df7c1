use Rattle.std.proofs.Common.{◌≡◌, ◌++◌, Some, map, length}
use Rattle.core_slots.specs.SlotLayout.{filled}
use Rattle.core_table.specs.Marks.{AreMarked, under}
use Rattle.core_table.proofs.answering.entries_below.Given as goal

-- the clones so far, and the remaining entries below theta, are all
abbrev pub invariant-loop-entry : goal.invariant-loop-entry
invariant-loop-entry g l =
    let low = under g.E.SketchEntry.key (Some l.theta) g.E.PathEntry.content in
    record {
      marked : AreMarked (map low l.left.slots.now) l.left.ahead l.left.marks;
      reported : l.clones.items ++ filled (map low l.left.slots.now) ≡ filled (map low l.slots);
    }

-- the remaining entries below theta
abbrev pub decreases-loop-entry : goal.decreases-loop-entry
decreases-loop-entry g l = length (filled (map (under g.E.SketchEntry.key (Some l.theta) g.E.PathEntry.content) l.left.slots.now))
