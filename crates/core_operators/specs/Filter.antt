-- Filters of hashes: a bit for each of equal ranges of hashes, and lists from which a filter has dropped entries.
use Rattle.std.specs.Prelude.{ℕ, ◌≡◌, ◌/◌, ◌%◌, ◌^◌, ◌==◌, Bool, true, List, filter, get_or}
use Rattle.std.specs.List.{AllByRecursion}
use Rattle.std.specs.Int.{bit_at}
use Rattle.core_laws.specs.Maps.{below, map_of}

-- whether a bit of words of 64 bits is set; no bit after them is
abbrev pub is_set : (words : List ℕ) → (place : ℕ) → Bool
is_set words place = bit_at (get_or words (place / 64) 0) (place % 64) == 1

-- whether a filter admits a hash: its bit is set, that of its range of 2^shift hashes
abbrev pub is_admitted : (words : List ℕ) → (shift hash : ℕ) → Bool
is_admitted words shift hash = is_set words (hash / 2 ^ shift)

-- a filter admits the keys of all entries below a theta
abbrev pub AdmitsBelow : {X : Type 0} → (X → ℕ) → List X → (theta : ℕ) → (words : List ℕ) → (shift : ℕ) → Type 0
AdmitsBelow key entries theta words shift = AllByRecursion (λ x. is_admitted words shift (key x) ≡ true) (below key entries theta)

-- the entries that a filter admits
abbrev pub admitted : {X : Type 0} → (X → ℕ) → (words : List ℕ) → (shift : ℕ) → List X → List X
admitted key words shift xs = filter (λ x. is_admitted words shift (key x)) xs

-- the map of some entries, without some whose keys other entries lack below a theta: a test of keys, which all keys of
-- the others below theta pass, has dropped them
pub record IsNarrowed {X Y : Type 0} (key : X → ℕ) (other : Y → ℕ) (others : List Y) (theta : ℕ) (listing items : List X) : Type 0 where
  pub test : ℕ → Bool
  pub passes : AllByRecursion (λ y. test (other y) ≡ true) (below other others theta)
  pub kept : items ≡ filter (λ x. test (key x)) (map_of key listing)
