use Rattle.std.proofs.Common.{◌≡◌, ◌+◌, ◌≤◌, ◌++◌, ◌∷◌, [], length, map, take}
use Rattle.core_laws.specs.Entries.{hash_key}
use Rattle.core_laws.specs.Maps.{rank}
use Rattle.core_slots.specs.SlotLayout.{filled}
use Rattle.core_slots.specs.Rank.{within}
use Rattle.core_slots.proofs.selection.gather_window.Given as goal

-- the gathered hashes, and those of the remaining slots, are all
abbrev pub invariant-loop-left : goal.invariant-loop-left
invariant-loop-left g l =
    let behind = map g.E.SketchEntry.key (filled (map g.E.PathEntry.content l.left)) in
    let all = map g.E.SketchEntry.key (filled (map g.E.PathEntry.content l.slots)) in
    record {
      short : l.count ≤ length l.hashes.items;
      gathered : take l.count l.hashes.items ++ within l.low l.high behind ≡ within l.low l.high (filled (l.fn.also ∷ []) ++ all);
      counted : l.less + rank hash_key behind l.low ≡ rank hash_key all l.low;
    }

-- the remaining slots
abbrev pub decreases-loop-left : goal.decreases-loop-left
decreases-loop-left g l = length l.left
