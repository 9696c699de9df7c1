-- The rules for the hashes in an image, and the tests that decide them.
use Rattle.std.specs.Prelude.{ℕ, ◌<◌, ◌≡◌, ◌≢◌, ◌&&◌, nat_lt, Bool, true, List, [], ◌∷◌, AllPairs}
use Rattle.std.specs.List.{AllByRecursion}
use Rattle.core_laws.specs.Maps.{IsAscending}

-- the hashes are distinct and from 1 to below theta, and ascend if `ordered` is true
pub record AreHashes (theta : ℕ) (ordered : Bool) (hashes : List ℕ) : Type 0 where
  pub distinct : AllPairs (λ x y. x ≢ y) hashes
  pub nonzero : AllByRecursion (λ h. 0 < h) hashes
  pub below_theta : AllByRecursion (λ h. h < theta) hashes
  pub ascending : ordered ≡ true → IsAscending (λ h. h) hashes

-- whether each hash is above the one before it, and the first above `last`
abbrev pub ascends_from : ℕ → List ℕ → Bool
ascends_from last [] = true
ascends_from last (h ∷ hs) = nat_lt last h && ascends_from h hs

-- whether each hash is above the one before it
abbrev pub is_ascending : List ℕ → Bool
is_ascending [] = true
is_ascending (h ∷ hs) = ascends_from h hs

-- whether each hash is from 1 to below theta
abbrev pub are_below : ℕ → List ℕ → Bool
are_below theta [] = true
are_below theta (h ∷ hs) = (nat_lt 0 h && nat_lt h theta) && are_below theta hs
