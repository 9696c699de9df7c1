use Rattle.std.proofs.Common.{◌≡◌, ◌++◌, ◌∷◌, [], map, take}
use Rattle.core_slots.specs.SlotLayout.{filled}
use Rattle.core_slots.proofs.selection.gather_all.Given as goal

-- the hashes so far
abbrev pub invariant-loop-slot : goal.invariant-loop-slot
invariant-loop-slot g l = l.hashes.items ≡ filled (l.fn.also ∷ []) ++ map g.E.SketchEntry.key (filled (map g.E.PathEntry.content (take l.slot-index l.slots)))
