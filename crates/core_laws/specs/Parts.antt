-- Parts of a list.
use Rattle.std.specs.Prelude.{◌≡◌, ◌++◌, ◌∷◌, List}

-- P holds of some first part of a list and of the element after it
abbrev pub StopsAt : {X : Type 0} → List X → (List X → X → Type 0) → Type 0
StopsAt {X} xs P = (front : List X) × (x : X) × (rest : List X) × (xs ≡ front ++ x ∷ rest) × P front x
