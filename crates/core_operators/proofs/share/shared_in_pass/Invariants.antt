use Rattle.std.proofs.Common.{◌≤◌, ◌+◌, length}
use Rattle.core_operators.proofs.SharedEntries.{IsSharing}
use Rattle.core_operators.proofs.share.shared_in_pass.Given as goal

-- the entries found so far, and how far both lists are read; each comparison skips an entry of at least one list
abbrev pub invariant-loop-incoming : goal.invariant-loop-incoming
invariant-loop-incoming g l =
    let key = g.E.SketchEntry.key in
    let merges = g.P.IntersectionMergePolicy.merges l.policy in
    let refuses = g.P.IntersectionMergePolicy.refuses l.policy in
    record {
      so_far : IsSharing key merges refuses (g.met.P.IntersectionMergePolicy.keeps_hash l.policy) l.initial.left l.left l.initial.arriving_left l.arriving_left l.theta l.entries.items;
      some : l.initial.compared + length l.entries.items ≤ l.compared;
      few : l.compared + length l.left + length l.arriving_left ≤ l.initial.compared + length l.initial.left + length l.initial.arriving_left;
    }

-- each comparison skips the first of at least one list
abbrev pub decreases-loop-incoming : goal.decreases-loop-incoming
decreases-loop-incoming g l = length l.left + length l.arriving_left
