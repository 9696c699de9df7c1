use Rattle.std.proofs.Common.{◌≡◌, length, min}
use Rattle.core_laws.specs.Maps.{IsApart}
use Rattle.core_operators.specs.Union.{at_or_above}
use Rattle.core_operators.proofs.MergedListing.{IsMergedBut}
use Rattle.core_operators.proofs.merge.merge_entries.Given as goal

-- of the entries from the hash on, those left are still to merge into the table
abbrev pub invariant-loop-entry : goal.invariant-loop-entry
invariant-loop-entry g l =
    let key = g.S.Entry.SketchEntry.key in
    record {
      merged : IsMergedBut key (g.P.UnionMergePolicy.merges l.policy) (g.P.UnionMergePolicy.refuses l.policy) l.theta l.ordered (at_or_above key (g.S.EntrySketch.listing l.fn.sketch) l.from) l.initial.table.map (at_or_above key l.entries.rest l.from) l.table.map;
      lesser_is : l.lesser ≡ min l.theta l.table.map.kept.theta;
      apart : IsApart key l.entries.rest;
    }

-- the entries that are left
abbrev pub decreases-loop-entry : goal.decreases-loop-entry
decreases-loop-entry g l = length l.entries.rest
