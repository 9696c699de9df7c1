-- Thetas that a sketch may reach, and what it then retains of a whole map.
use Rattle.std.specs.Prelude.{ℕ, ◌<◌, ◌≤◌, ◌≡◌, ◌⊎◌, IsSome, List}
use Rattle.core_laws.specs.Maps.{IsAscending, below, rank, entry_at}
use Rattle.core_laws.specs.Cuts.{Retained}

-- theta is the start, or a key below it that has at least k smaller ones
abbrev pub IsLawful : {X : Type 0} → (X → ℕ) → List X → (k start theta : ℕ) → Type 0
IsLawful key xs k start theta =
    (theta ≡ start)
    ⊎ record {
      below_start : theta < start;
      is_key : IsSome (entry_at key xs theta);
      ranked : k ≤ rank key xs theta;
    }

-- the retained map is within a whole map: all of it below a lawful theta
pub record IsWithin {X : Type 0} (key : X → ℕ) (k start : ℕ) (v : Retained X) (whole : List X) : Type 0 where
  pub ascending : IsAscending key whole
  pub entries_are : v.entries ≡ below key whole v.theta
  pub lawful : IsLawful key whole k start v.theta
