-- The laws of plain tables.
use Rattle.std.specs.Prelude.{ℕ, ◌≤◌}
use Rattle.core_laws.specs.declared.TheConstants.{MIN_LG_K}
use Rattle.core_table.specs.HashTable.{MapTable, IsTable}

-- it is the table of a sketch
pub record IsPlain {X : Type 0} (key : X → ℕ) (t : MapTable X) : Type 0 where
  pub table : IsTable key t
  pub of_sketch : MIN_LG_K ≤ t.lg_nom
