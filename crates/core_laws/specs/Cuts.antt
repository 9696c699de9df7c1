-- What a sketch retains of a map: its entries below a theta, and cuts to the k smallest.
use Rattle.std.specs.Prelude.{ℕ, ◌<◌, List, [], ◌≤◌, ◌-◌}
use Rattle.std.specs.List.{AllByRecursion}
use Rattle.core_laws.specs.Maps.{IsAscending, below, key_of_rank}
use Rattle.core_laws.specs.declared.TheConstants.{MAX_THETA}

-- a map, and a theta that all its keys are below
pub record Retained (X : Type 0) : Type 0 where
  pub entries : List X
  pub theta : ℕ

-- the entries of a map below theta, with theta
abbrev pub retained : {X : Type 0} → (X → ℕ) → List X → ℕ → Retained X
retained key xs t = record { entries = below key xs t; theta = t }

-- the entries below t; if these are more than k, the k smallest of them, below the key of the next
unfoldable pub cut : {X : Type 0} → (X → ℕ) → ℕ → List X → ℕ → Retained X
cut key k xs t = retained key xs (key_of_rank key k (below key xs t) t)

-- no entries, below a theta
abbrev pub none_below : {X : Type 0} → ℕ → Retained X
none_below theta = record { entries = []; theta = theta }

-- theta is from 1 to MAX_THETA, and the keys ascend from 1 to below theta
pub record IsRetained {X : Type 0} (key : X → ℕ) (v : Retained X) : Type 0 where
  pub ascending : IsAscending key v.entries
  pub nonzero : AllByRecursion (λ x. 0 < key x) v.entries
  pub below_theta : AllByRecursion (λ x. key x < v.theta) v.entries
  pub theta_low : 0 < v.theta
  pub theta_high : v.theta ≤ MAX_THETA
