-- Hashes that are looked up together.
use Rattle.std.specs.Prelude.{ℕ, ◌≡◌, ◌⊎◌, List, IsSome}
use Rattle.core_laws.specs.Maps.{entry_at}

-- a hash is kept, or it is the key of one of some entries and replaced by 0
abbrev pub IsBlanked : {X : Type 0} → (X → ℕ) → List X → (h blanked : ℕ) → Type 0
IsBlanked key xs h blanked = (blanked ≡ h) ⊎ ((blanked ≡ 0) × IsSome (entry_at key xs h))
