-- The entries of a table fill one of its nominal entries.
use Rattle.std.proofs.Common.{ℕ, ◌*◌, ◌/◌, ◌≤◌, ◌^◌, List, [], ◌∷◌}
use Rattle.std.proofs.Math.Pow.{pow_mono}
use Rattle.core_laws.specs.Maps.{IsAscending, IsApart}
use Rattle.core_laws.proofs.maps.Ascending.{ascending-head, ascending-tail}
use Rattle.core_laws.proofs.maps.LookUps.{entry_at_past}
use Rattle.core_table.specs.Filling.{IsFill}
use Rattle.core_table.specs.HashTable.{MapTable, IsTable}

module _ {X : Type 0} (key : X → ℕ) where
  ascending_apart : (xs : List X) → IsAscending key xs → IsApart key xs
  ascending_apart [] up = tt
  ascending_apart (x ∷ xs) up = (entry_at_past key xs (key x) (ascending-head key x xs up), ascending_apart xs (ascending-tail key x xs up))

  pub fills_itself : (t : MapTable X) → IsTable key t → 3 ≤ t.lg_nom → IsFill key (15 * 2 ^ t.lg_nom / 8) t.kept.theta t.kept.entries
  fills_itself t good size =
      let most : 2 ^ 3 ≤ 2 ^ t.lg_nom = pow_mono {i = 3} {j = t.lg_nom} size in
      record {
        apart = ascending_apart t.kept.entries good.kept.ascending;
        nonzero = good.kept.nonzero;
        below_theta = good.kept.below_theta;
        limited = good.limited most;
      }
