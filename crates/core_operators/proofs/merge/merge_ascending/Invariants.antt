use Rattle.std.proofs.Common.{true, length}
use Rattle.core_operators.proofs.MergedListing.{IsMergedBut}
use Rattle.core_operators.proofs.merge.merge_ascending.Given as goal

-- the entries left are still to merge into the table
abbrev pub invariant-loop-first : goal.invariant-loop-first
invariant-loop-first g l = IsMergedBut g.E.SketchEntry.key (g.P.UnionMergePolicy.merges l.policy) (g.P.UnionMergePolicy.refuses l.policy) l.theta true l.entries l.initial.table.map l.left l.table.map

-- the entries that are left
abbrev pub decreases-loop-first : goal.decreases-loop-first
decreases-loop-first g l = length l.left
