use Rattle.std.proofs.Common.{◌≡◌, ◌≤◌, [], length, map, take, drop}
use Rattle.core_laws.specs.Maps.{below}
use Rattle.core_slots.specs.SlotLayout.{filled}
use Rattle.core_slots.proofs.gathering.gather_below.Given as goal

-- the slots so far are free, the others are unchanged, and the entries below theta were moved
abbrev pub invariant-loop-at : goal.invariant-loop-at
invariant-loop-at g l =
    let key = g.E.SketchEntry.key in
    let content = g.E.PathEntry.content in
    record {
      size : length l.slots ≡ length l.initial.slots;
      long : length l.others ≡ length l.initial.others;
      limited : l.count ≤ l.at;
      number : l.count ≡ length (below key (filled (map content (take l.at l.initial.slots))) l.theta);
      left : drop l.at l.slots ≡ drop l.at l.initial.slots;
      free : filled (map content (take l.at l.slots)) ≡ [];
      taken : filled (map content (take l.count l.others)) ≡ below key (filled (map content (take l.at l.initial.slots))) l.theta;
    }
