-- The keys of values.
use Rattle.std.specs.Prelude.{ℕ, ◌<◌, ⊤, IsSome, List, [], map}
use Rattle.std.specs.List.{AllByRecursion}
use Rattle.core_laws.specs.Maps.{entry_at}
use Rattle.core_laws.specs.Values.{Sketch, Empty, NonEmpty}

-- the entries of a value; Empty has none
abbrev pub entries_of : {X : Type 0} → Sketch X → List X
entries_of Empty = []
entries_of (NonEmpty v) = v.entries

-- its keys, ascending
abbrev pub keys_of : {X : Type 0} → (X → ℕ) → Sketch X → List ℕ
keys_of key v = map key (entries_of v)

-- whether a hash is one of them
abbrev pub IsKeyOf : {X : Type 0} → (X → ℕ) → ℕ → Sketch X → Type 0
IsKeyOf key q v = IsSome (entry_at key (entries_of v) q)

-- the keys of a value are below its theta
abbrev pub IsBelowTheta : {X : Type 0} → (X → ℕ) → Sketch X → Type 0
IsBelowTheta key Empty = ⊤
IsBelowTheta key (NonEmpty v) = AllByRecursion (λ x. key x < v.theta) v.entries
