use Rattle.std.proofs.Common.{ℕ, List, length}
use Rattle.keys_groups.specs.Names.{Mark, HasMark, IsReachedIn}
use Rattle.keys_groups.proofs.names.put_in_levels.Given as goal

-- the marks are kept, and what is reached in a level that is left is so in all
abbrev pub invariant-loop-level : goal.invariant-loop-level
invariant-loop-level l = record {
  kept : (bucket other number : ℕ) → HasMark l.fn.buckets.items bucket other number → HasMark l.buckets.items bucket other number;
  within : (buckets : List (List Mark)) (number : ℕ) → IsReachedIn buckets l.left l.hash number → IsReachedIn buckets l.levels l.hash number;
}

abbrev pub decreases-loop-level : goal.decreases-loop-level
decreases-loop-level l = length l.left
