use Rattle.std.proofs.Common.{◌≡◌, ◌++◌, ◌∷◌}
use Rattle.core_operators.proofs.merge.clones_of.Given as goal

-- the clones, and then the entries that are left
abbrev pub invariant-loop-entry : goal.invariant-loop-entry
invariant-loop-entry g l = record { all : l.clones.items ++ l.entry-iterator.rest ≡ l.fn.first ∷ l.fn.entries.rest }
