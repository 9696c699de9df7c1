-- The size of a table that grows until its slots may have a number of entries.
use Rattle.std.proofs.Common.{◌≡◌, ℕ, ◌+◌, ◌*◌, ◌/◌, ◌^◌, ◌<◌, ◌≤◌, min, inl, inr, arith}
use Rattle.std.proofs.lemmas.Bool.{cases_lt}
use Rattle.std.proofs.Math.Pow.{pow_mono}
use Rattle.std.proofs.lemmas.Nat.{pow_pos}
use Rattle.core_table.specs.HashTable.{HasSize, threshold}
use Rattle.core_table.proofs.Tables.{threshold_growing, threshold_full, threshold_is, twice, grown}

-- slots of any number of entries may have none
pub emptied : (lg nom grow count : ℕ) → HasSize lg nom grow count → HasSize lg nom grow 0
emptied lg nom grow count is = record { limited = omega arith; room = pow_pos lg; within = is.within; nom_high = is.nom_high; grow_high = is.grow_high; grows = is.grows; starts = is.starts }

-- slots that are too few for so many entries aren't at full size, and get more
pub wider : (lg new_lg nom grow count : ℕ) → HasSize lg nom grow 0 → 3 ≤ nom → threshold lg nom < count → count ≤ 15 * 2 ^ nom / 8 → new_lg ≡ min (lg + grow) (nom + 1) → (lg ≤ nom) × (lg < new_lg) × HasSize new_lg nom grow 0
wider lg new_lg nom grow count is large few limited new =
    let growing : lg ≤ nom =
    elim (cases_lt nom lg) [
      | inl full ↦ absurd (omega (arith, few, limited, threshold_is lg nom (omega (arith, full, is.within)) large))
      | inr le ↦ le
    ] in
    (growing, omega (arith, new, growing, (is.grows growing).1), emptied new_lg nom grow 1 (grown lg new_lg nom grow 0 is growing new).size)

-- slots that may have so many entries
pub enough : (lg nom grow count : ℕ) → HasSize lg nom grow 0 → 3 ≤ nom → count ≤ threshold lg nom → HasSize lg nom grow count
enough lg nom grow count is large limited = record {
  limited = limited;
  room =
      elim (cases_lt nom lg) [
        | inl full ↦
            let pos : 2 ^ 3 ≤ 2 ^ nom = pow_mono {i = 3} {j = nom} large in
            omega (arith, limited, threshold_full lg nom full, twice lg nom (omega (arith, full, is.within)), pos)
        | inr growing ↦ let pos : 0 < 2 ^ lg = pow_pos lg in omega (arith, limited, threshold_growing lg nom growing, pos)
      ];
  within = is.within;
  nom_high = is.nom_high;
  grow_high = is.grow_high;
  grows = is.grows;
  starts = is.starts;
}
