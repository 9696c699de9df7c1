use Rattle.std.proofs.Common.{◌≡◌, false, map, take}
use Rattle.core_slots.specs.SlotLayout.{filled}
use Rattle.core_table.proofs.ListedBelow.{NoneBelow}
use Rattle.core_table.proofs.iter.any_below.Given as goal

-- if none was found, none so far holds an entry below theta
abbrev pub invariant-loop-slot : goal.invariant-loop-slot
invariant-loop-slot g l = l.any ≡ false → NoneBelow g.E.SketchEntry.key l.theta (filled (map g.E.PathEntry.content (take l.slot-index l.block)))
