-- Sketch values against whole maps, which have no theta.
use Rattle.std.specs.Prelude.{ℕ, ◌≡◌, ◌<◌, ⊤, List, [], ◌∷◌}
use Rattle.std.specs.List.{AllByRecursion}
use Rattle.core_laws.specs.declared.TheConstants.{MAX_THETA}
use Rattle.core_laws.specs.Maps.{IsAscending, below}
use Rattle.core_laws.specs.Lawful.{IsLawful}
use Rattle.core_laws.specs.Values.{Sketch, Empty, NonEmpty}
use Rattle.core_laws.specs.Operators.{common}

-- the map is all of the whole map below theta; for Empty, the whole map has no keys
abbrev pub IsAllBelow : {X : Type 0} → (X → ℕ) → Sketch X → List X → Type 0
IsAllBelow key Empty whole = whole ≡ []
IsAllBelow key (NonEmpty v) whole = v.entries ≡ below key whole v.theta

-- a value samples a whole map, whose keys are below the greatest theta
pub record IsSample {X : Type 0} (key : X → ℕ) (value : Sketch X) (whole : List X) : Type 0 where
  pub ascending : IsAscending key whole
  pub carried : AllByRecursion (λ x. key x < MAX_THETA) whole
  pub all_below : IsAllBelow key value whole

-- values sample whole maps, each its own whole map
abbrev pub AreSamples : {X : Type 0} → (X → ℕ) → List (Sketch X) → List (List X) → Type 0
AreSamples key [] [] = ⊤
AreSamples key (value ∷ values) (whole ∷ wholes) = IsSample key value whole × AreSamples key values wholes
AreSamples key [] (whole ∷ wholes) = ⊥
AreSamples key (value ∷ values) [] = ⊥

-- the theta of a value is lawful
abbrev pub IsLawfulValue : {X : Type 0} → (X → ℕ) → (k start : ℕ) → Sketch X → List X → Type 0
IsLawfulValue key k start Empty whole = ⊤
IsLawfulValue key k start (NonEmpty v) whole = IsLawful key whole k start v.theta

-- the thetas of values are lawful, each against its own whole map
abbrev pub AreLawful : {X : Type 0} → (X → ℕ) → (k start : ℕ) → List (Sketch X) → List (List X) → Type 0
AreLawful key k start [] [] = ⊤
AreLawful key k start (value ∷ values) (whole ∷ wholes) = IsLawfulValue key k start value whole × AreLawful key k start values wholes
AreLawful key k start [] (whole ∷ wholes) = ⊥
AreLawful key k start (value ∷ values) [] = ⊥

-- the keys that all whole maps share, with their entries combined
abbrev pub common_all : {X : Type 0} → (X → ℕ) → (X → X → X) → List X → List (List X) → List X
common_all key merges whole [] = whole
common_all key merges whole (xs ∷ maps) = common_all key merges (common key merges whole xs) maps
