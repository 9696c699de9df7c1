-- Entries that fill a table.
use Rattle.std.specs.Prelude.{ℕ, ◌<◌, ◌≤◌, List, length}
use Rattle.std.specs.List.{AllByRecursion}
use Rattle.core_laws.specs.Maps.{IsApart}

-- at most `most` entries, whose hashes are distinct and from 1 to below theta
pub record IsFill {X : Type 0} (key : X → ℕ) (most theta : ℕ) (entries : List X) : Type 0 where
  pub apart : IsApart key entries
  pub nonzero : AllByRecursion (λ x. 0 < key x) entries
  pub below_theta : AllByRecursion (λ x. key x < theta) entries
  pub limited : length entries ≤ most
