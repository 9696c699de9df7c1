-- What a sketch shows to operators.
use Rattle.std.specs.Prelude.{ℕ, ◌<◌, ◌≤◌, ◌≡◌, ◌^◌, Bool, true, List, [], length, AllPairs, ◌≢◌, if◌then◌else◌}
use Rattle.std.specs.List.{AllByRecursion}
use Rattle.core_laws.specs.declared.TheConstants.{MAX_THETA}
use Rattle.core_laws.specs.Maps.{IsAscending, map_of}
use Rattle.core_laws.specs.Values.{Sketch, Empty, NonEmpty}

-- whether the sketch is empty, its theta, its seed's hash, whether its hashes are known to ascend, and these in their order
pub record Shown : Type 0 where
  pub empty : Bool
  pub theta : ℕ
  pub seed_hash : ℕ
  pub ordered : Bool
  pub hashes : List ℕ

-- the laws of what is shown
pub record IsShown (s : Shown) : Type 0 where
  pub theta_low : 0 < s.theta
  pub theta_high : s.theta ≤ MAX_THETA
  pub distinct : AllPairs (λ x y. x ≢ y) s.hashes
  pub nonzero : AllByRecursion (λ h. 0 < h) s.hashes
  pub below_theta : AllByRecursion (λ h. h < s.theta) s.hashes
  pub limited : length s.hashes < 2 ^ 32
  pub ascending : s.ordered ≡ true → IsAscending (λ h. h) s.hashes
  pub none : s.empty ≡ true → s.hashes ≡ []
  pub greatest : s.empty ≡ true → s.theta ≡ MAX_THETA

-- the value of a sketch that shows this and lists these entries
abbrev pub shown_value : {X : Type 0} → (X → ℕ) → Shown → List X → Sketch X
shown_value key s listing = if s.empty then Empty else NonEmpty (record { entries = map_of key listing; theta = s.theta })
