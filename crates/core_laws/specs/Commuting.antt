-- Merges that don't depend on the order or the grouping of entries of one key, and merges of an entry with itself.
use Rattle.std.specs.Prelude.{ℕ, ◌≡◌}

abbrev pub Commutes : {X : Type 0} → (X → ℕ) → (X → X → X) → Type 0
Commutes {X} key merges = (x y : X) → key x ≡ key y → merges x y ≡ merges y x

abbrev pub Associates : {X : Type 0} → (X → ℕ) → (X → X → X) → Type 0
Associates {X} key merges = (x y z : X) → key x ≡ key y → key y ≡ key z → merges (merges x y) z ≡ merges x (merges y z)

abbrev pub IsIdempotent : {X : Type 0} → (X → X → X) → Type 0
IsIdempotent {X} merges = (x : X) → merges x x ≡ x
