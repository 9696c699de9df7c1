-- The entries of a union in two lists.
use Rattle.std.specs.Prelude.{ℕ, ◌≤◌, ◌≡◌, ◌+◌, ◌*◌, ◌/◌, ◌^◌, ◌++◌, Bool, List, [], None, Some, length}
use Rattle.core_laws.specs.declared.TheConstants.{MIN_LG_K}
use Rattle.core_laws.specs.Maps.{map_of, entry_at}
use Rattle.core_laws.specs.Cuts.{Retained, IsRetained}
use Rattle.core_table.specs.HashTable.{MapTable}

-- what clauses see of the entries of a union: their map, as that of a table, and whether they are in lists
pub record Listable (X : Type 0) : Type 0 where
  pub map : MapTable X
  pub listed : Bool

-- the map of two lists, below theta
abbrev pub in_lists : {X : Type 0} → (key : X → ℕ) → (held added : List X) → (theta : ℕ) → Retained X
in_lists key held added theta = record { entries = map_of key (held ++ added); theta = theta }

-- a table with the entries of two lists in place of its own
abbrev pub with_lists : {X : Type 0} → (key : X → ℕ) → (held added : List X) → MapTable X → MapTable X
with_lists key held added t = record t { kept = in_lists key held added t.kept.theta }

-- two ascending lists beside a table without entries: no key is in both, all keys are from 1 to below the table's theta, and
-- they are at most as many as such a table may have
pub record AreLists {X : Type 0} (key : X → ℕ) (t : MapTable X) (held added : List X) : Type 0 where
  pub nothing : t.kept.entries ≡ []
  pub large : MIN_LG_K ≤ t.lg_nom
  pub held_sound : IsRetained key (record { entries = held; theta = t.kept.theta })
  pub added_sound : IsRetained key (record { entries = added; theta = t.kept.theta })
  pub apart : (q : ℕ) (x : X) → entry_at key held q ≡ Some x → entry_at key added q ≡ None
  pub limited : length held + length added ≤ 15 * 2 ^ t.lg_nom / 8
