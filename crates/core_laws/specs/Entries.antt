-- Requirements on entries, and hashes as entries: a theta sketch retains hashes alone.
use Rattle.std.specs.Prelude.{◌≡◌, ℕ, ◌&&◌, Bool, nat_lt}
use Rattle.core_laws.specs.declared.TheConstants.{MAX_THETA}
use Rattle.core_laws.specs.Step.{Step, put_step}

-- a hash is its own key
abbrev pub hash_key : ℕ → ℕ
hash_key h = h

-- a hash that an entry may have
abbrev pub is_carried : ℕ → Bool
is_carried h = nat_lt 0 h && nat_lt h MAX_THETA

-- the step that makes the entry of a hash, and leaves an existing one unchanged
abbrev pub hash_step : ℕ → Step ℕ
hash_step h = put_step h

-- of two entries with one hash, the first stays
abbrev pub first_hash : ℕ → ℕ → ℕ
first_hash h other = h

-- a merge keeps the key: entries of one key are merged into one of this key
abbrev pub KeepsKey : {X : Type 0} → (X → ℕ) → (X → X → X) → Type 0
KeepsKey {X} key merges = (x y : X) → key x ≡ key y → key (merges x y) ≡ key y

-- how entries of one key are merged: what an entry's key is, and what two entries become
pub record Merging (X : Type 0) : Type 0 where
  pub key : X → ℕ
  pub merges : X → X → X
  pub keeps : KeepsKey key merges

-- clones equal their originals
abbrev pub ClonesEqual : {X : Type 0} → (X → X → Type 0) → Type 0
ClonesEqual {X} is_clone = (x y : X) → is_clone x y → y ≡ x
