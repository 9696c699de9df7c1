use Rattle.std.proofs.Common.{map}
use Rattle.core_slots.specs.SlotLayout.{filled}
use Rattle.core_slots.proofs.Lookups.{IsLeft}
use Rattle.core_slots.proofs.lookup.drop_retained.Given as goal

-- the remaining hashes so far
abbrev pub invariant-loop-step : goal.invariant-loop-step
invariant-loop-step g l = IsLeft g.E.SketchEntry.key (filled (map g.E.PathEntry.content l.slots)) l.theta l.fn.hashes l.hashes l.left
