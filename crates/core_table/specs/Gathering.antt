-- Entries from the first one below a theta.
use Rattle.std.specs.Prelude.{ℕ, List, [], ◌∷◌, nat_lt, if◌then◌else◌}

-- the entries from the first one below a theta
abbrev pub from_below : {X : Type 0} → (X → ℕ) → (theta : ℕ) → List X → List X
from_below key theta [] = []
from_below key theta (x ∷ xs) = if nat_lt (key x) theta then x ∷ xs else from_below key theta xs
