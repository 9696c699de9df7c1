use Rattle.std.proofs.Common.{◌≡◌, length}
use Rattle.core_operators.specs.Lists.{AreLists, with_lists}
use Rattle.core_operators.specs.Union.{at_or_above}
use Rattle.core_operators.proofs.MergedListing.{IsMergedBut}
use Rattle.core_operators.proofs.lists.merge_into_lists.Given as goal

-- of the entries from the hash on, those left are still to merge into the map of the lists
abbrev pub invariant-loop-first : goal.invariant-loop-first
invariant-loop-first g l =
    let key = g.E.SketchEntry.key in
    record {
      lists : AreLists key l.table.map l.lists.held.items l.lists.added.items;
      merged : IsMergedBut key (g.P.UnionMergePolicy.merges l.policy) (g.P.UnionMergePolicy.refuses l.policy) l.theta l.ordered (at_or_above key l.entries l.from)
          (with_lists key l.initial.lists.held.items l.initial.lists.added.items l.initial.table.map) (at_or_above key l.left l.from) (with_lists key l.lists.held.items l.lists.added.items l.table.map);
      made_with : l.table.map ≡ record l.initial.table.map { kept = l.table.map.kept };
    }

-- the entries that are left
abbrev pub decreases-loop-first : goal.decreases-loop-first
decreases-loop-first g l = length l.left
