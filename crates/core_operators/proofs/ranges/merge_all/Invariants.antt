use Rattle.std.proofs.Common.{◌<◌, ◌≤◌, ◌-◌, flat_map}
use Rattle.core_operators.proofs.JoinedRanges.{HasMergedBelow}
use Rattle.core_operators.proofs.ranges.merge_all.Given as goal

-- all entries below `from` were merged
abbrev pub invariant-loop-from : goal.invariant-loop-from
invariant-loop-from g l = record {
  within : l.from ≤ l.theta;
  more : l.from < l.theta → l.from < l.to;
  high : l.to ≤ l.theta;
  merged : HasMergedBelow g.S.Entry.SketchEntry.key (g.P.UnionMergePolicy.merges l.policy) (g.P.UnionMergePolicy.refuses l.policy) l.initial.table.map l.table.map (flat_map g.S.EntrySketch.listing l.sketches) l.from;
}

-- what is left below theta
abbrev pub decreases-loop-from : goal.decreases-loop-from
decreases-loop-from g l = l.theta - l.from
