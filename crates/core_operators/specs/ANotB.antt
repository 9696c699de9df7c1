-- What a difference is, and when it is refused.
use Rattle.std.specs.Prelude.{ℕ, ◌==◌, ◌||◌, not, if◌then◌else◌, Bool, List, Option, Some, None}
use Rattle.sketch_base.specs.declared.error.ErrorKind.{ErrorKind}
use Rattle.sketch_base.specs.declared.error.ErrorKind.TheVariants.{InvalidArgument}
use Rattle.core_compact.specs.CompactState.{Compact, IsAnswer}
use Rattle.core_laws.specs.Entries.{hash_key}
use Rattle.core_laws.specs.Maps.{below}
use Rattle.core_laws.specs.Operators.{lacking, minus}
use Rattle.core_laws.specs.Shown.{Shown, shown_value}

-- the error of a difference: another seed hash of a sketch. No seed hash is checked if the first is empty, nor that of
-- an empty second
abbrev pub difference_refusal : (seed_hash : ℕ) → Shown → Shown → Option ErrorKind
difference_refusal seed_hash a b =
    if a.empty then None
    else if not (seed_hash == a.seed_hash) then Some InvalidArgument
    else if b.empty then None
    else if not (seed_hash == b.seed_hash) then Some InvalidArgument
    else None

-- the state is the difference of two sketches, the first with these entries, and a result to be ordered if `requested` is
-- true or the first is
abbrev pub IsDifference : {X : Type 0} → (X → ℕ) → (a : Shown) → List X → (b : Shown) → (requested : Bool) → Compact X → Type 0
IsDifference key a entries b requested s =
    IsAnswer key (minus key hash_key (shown_value key a entries) (shown_value hash_key b b.hashes)) a.seed_hash
    (requested || a.ordered) s

-- the entries below a theta whose keys others lack
abbrev pub lacking_below : {X Y : Type 0} → (X → ℕ) → (Y → ℕ) → (theta : ℕ) → List X → List Y → List X
lacking_below key other_key theta entries others = lacking key other_key (below key entries theta) others

-- the state is the difference of two sketches of hashes, given with their hashes, and a result to be ordered if
-- `requested` is true or the first is
abbrev pub IsHashDifference : (a : Shown) → List ℕ → (b : Shown) → List ℕ → (requested : Bool) → Compact ℕ → Type 0
IsHashDifference a hashes b others requested s =
    IsAnswer hash_key (minus hash_key hash_key (shown_value hash_key a hashes) (shown_value hash_key b others)) a.seed_hash (requested || a.ordered) s
