use Rattle.std.proofs.Common.{◌+◌, ◌≤◌, length}
use Rattle.core_operators.proofs.DifferenceEntries.{IsSifting, to_keep}
use Rattle.core_operators.proofs.scan.ascending_difference.Given as goal

-- the entries kept so far, and how far both lists are read
abbrev pub invariant-loop-first : goal.invariant-loop-first
invariant-loop-first g l =
    let key = g.E.SketchEntry.key in
    let other = g.F.SketchEntry.key in
    record {
      so_far : IsSifting key other l.theta (to_keep key other l.theta l.fn.entries l.fn.others) l.left l.others_left l.kept.items;
      grows : l.initial.compared ≤ l.compared;
      few : l.compared + length l.left + length l.others_left ≤ l.initial.compared + length l.fn.entries + length l.fn.others;
    }

abbrev pub decreases-loop-first : goal.decreases-loop-first
decreases-loop-first g l = length l.left
