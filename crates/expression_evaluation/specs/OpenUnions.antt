-- Unions that have united some values and take more.
use Rattle.std.specs.Prelude.{ℕ, ◌≡◌, ◌^◌, List, [], ◌∷◌, false}
use Rattle.core_laws.specs.Entries.{hash_key, first_hash}
use Rattle.core_laws.specs.Operators.{unite}
use Rattle.core_laws.specs.Values.{Sketch, Empty, NonEmpty, theta_of}
use Rattle.core_laws.specs.declared.TheConstants.{MAX_THETA}
use Rattle.core_operators.specs.Union.{Union, union_value}

-- the union of values with 2^lg_k nominal entries
abbrev pub united : (lg_k : ℕ) → List (Sketch ℕ) → Sketch ℕ
united lg_k values = unite hash_key first_hash (2 ^ lg_k) MAX_THETA values

-- the hashes of a value
abbrev pub hashes_in : Sketch ℕ → List ℕ
hashes_in Empty = []
hashes_in (NonEmpty v) = v.entries

-- a union of 2^lg_k nominal entries that has not failed, and whose value is that of a union: to unite it alone changes
-- nothing
pub record IsOpenUnion {P : Type 0} (lg_k : ℕ) (u : Union ℕ P) : Type 0 where
  pub sound : u.failed ≡ false
  pub nominal : u.lg_k ≡ lg_k
  pub start : u.start ≡ MAX_THETA
  pub same_hashes : hashes_in (united lg_k (union_value hash_key u ∷ [])) ≡ hashes_in (union_value hash_key u)
  pub same_theta : theta_of (united lg_k (union_value hash_key u ∷ [])) ≡ theta_of (union_value hash_key u)

-- a union of 2^lg_k nominal entries of a seed that has united this value alone, or a union that has it
pub record IsOpenedBy {P : Type 0} (lg_k seed_hash : ℕ) (a : Sketch ℕ) (u : Union ℕ P) : Type 0 where
  pub sound : u.failed ≡ false
  pub nominal : u.lg_k ≡ lg_k
  pub start : u.start ≡ MAX_THETA
  pub same_seed : u.seed_hash ≡ seed_hash
  pub value : union_value hash_key u ≡ united lg_k (a ∷ [])
