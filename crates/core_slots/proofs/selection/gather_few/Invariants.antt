use Rattle.std.proofs.Common.{◌≡◌, ◌≤◌, length, map, take}
use Rattle.core_laws.specs.Entries.{hash_key}
use Rattle.core_laws.specs.Maps.{rank}
use Rattle.core_slots.specs.SlotLayout.{filled}
use Rattle.core_slots.specs.Rank.{within}
use Rattle.core_slots.proofs.selection.gather_few.Given as goal

-- of the hashes so far: those of the window, and how many are less
abbrev pub invariant-loop-at : goal.invariant-loop-at
invariant-loop-at g l =
    let seen = map g.E.SketchEntry.key (filled (map g.E.PathEntry.content (take l.at l.slots))) in
    record {
      long : length l.found ≡ length l.initial.found;
      limited : l.count ≤ l.at;
      gathered : take l.count l.found ≡ within l.low l.high seen;
      counted : l.less ≡ rank hash_key seen l.low;
      less_few : l.less ≤ l.at;
    }
