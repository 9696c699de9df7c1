use Rattle.std.proofs.Common.{ℕ, ◌≡◌, Some, length}
use Rattle.std.specs.Prelude.{slice_get}
use Rattle.keys_groups.specs.Names.{texts_of, IsReachedIn}
use Rattle.keys_groups.proofs.names.NameIndex.find.Given as goal

-- a name that is reached in a level is so in a level that is left
abbrev pub invariant-loop-level : goal.invariant-loop-level
invariant-loop-level g l = (number : ℕ) → slice_get (texts_of l.entries) number ≡ Some l.name →
    IsReachedIn l.self.buckets.items l.self.levels.items l.hash number → IsReachedIn l.self.buckets.items l.left l.hash number

abbrev pub decreases-loop-level : goal.decreases-loop-level
decreases-loop-level g l = length l.left
