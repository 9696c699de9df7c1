-- The value of a sketch, and what it shows.
use Rattle.std.specs.Prelude.{ℕ, map, ⊤, ◌*◌, length}
use Rattle.core_laws.specs.Cuts.{Retained, cut}
use Rattle.core_laws.specs.Maps.{IsAscending}
use Rattle.core_laws.specs.declared.TheConstants.{MAX_THETA}

-- the value of a sketch: Empty, or a map and the theta that all its keys are below
pub data Sketch (X : Type 0) : Type 0 where
  Empty : Sketch X
  NonEmpty : Retained X → Sketch X

-- the value without its summaries
abbrev pub keys : {X : Type 0} → (X → ℕ) → Sketch X → Sketch ℕ
keys key Empty = Empty
keys key (NonEmpty v) = NonEmpty (record { entries = map key v.entries; theta = v.theta })

-- a value cut to k: Empty stays Empty
abbrev pub cut_value : {X : Type 0} → (X → ℕ) → ℕ → Sketch X → Sketch X
cut_value key k Empty = Empty
cut_value key k (NonEmpty v) = NonEmpty (cut key k v.entries v.theta)

-- the map of a value ascends
abbrev pub IsAscendingValue : {X : Type 0} → (X → ℕ) → Sketch X → Type 0
IsAscendingValue key Empty = ⊤
IsAscendingValue key (NonEmpty v) = IsAscending key v.entries

-- the theta of a value: the greatest if it is Empty
abbrev pub theta_of : {X : Type 0} → Sketch X → ℕ
theta_of Empty = MAX_THETA
theta_of (NonEmpty v) = v.theta

-- how many entries a value has
abbrev pub count_of : {X : Type 0} → Sketch X → ℕ
count_of Empty = 0
count_of (NonEmpty v) = length v.entries

-- the fraction whose quotient estimates how many distinct values were seen: the number of entries times the greatest
-- theta, over theta
abbrev pub fraction_of : {X : Type 0} → Sketch X → ℕ × ℕ
fraction_of Empty = (0, 1)
fraction_of (NonEmpty v) = (length v.entries * MAX_THETA, v.theta)
