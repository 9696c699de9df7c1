use Rattle.std.proofs.Common.{◌≡◌, ◌≤◌, length, map, take, drop}
use Rattle.core_laws.specs.Maps.{below}
use Rattle.core_slots.specs.SlotLayout.{filled}
use Rattle.core_slots.proofs.gathering.pack_below.Given as goal

-- the entries below theta of the slots so far are packed, and the other slots are unchanged
abbrev pub invariant-loop-at : goal.invariant-loop-at
invariant-loop-at g l =
    let key = g.E.SketchEntry.key in
    let content = g.E.PathEntry.content in
    record {
      size : length l.slots ≡ length l.initial.slots;
      limited : l.count ≤ l.at;
      left : drop l.at l.slots ≡ drop l.at l.initial.slots;
      taken : filled (map content (take l.count l.slots)) ≡ below key (filled (map content (take l.at l.initial.slots))) l.theta;
    }
