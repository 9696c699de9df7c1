-- What iterators over entries and hashes have left, and their sources.
use Rattle.std.specs.Prelude.{ℕ, Bool, List, true, false, if◌then◌else◌}
use Rattle.core_table.specs.Gathering.{from_below}
use Rattle.core_operators.specs.declared.iter.Source.{Source}
use Rattle.core_operators.specs.declared.iter.Source.TheVariants.{Table, Slice}

-- what an iterator has left, and whether it knows how many items these are
pub record Remaining (X : Type 0) : Type 0 where
  pub rest : List X
  pub counted : Bool

-- the entries left of a table or of a slice
abbrev pub left_in : {X S : Type 0} → Source X S → Remaining X
left_in (Table entries) = record { rest = entries; counted = false }
left_in (Slice entries) = record { rest = entries.now; counted = true }

-- the entries that a merge still reads: if the order isn't known, those from the first that is below theta
abbrev pub still_read : {X : Type 0} → (X → ℕ) → (ordered : Bool) → (theta : ℕ) → List X → List X
still_read key ordered theta xs = if ordered then xs else from_below key theta xs
