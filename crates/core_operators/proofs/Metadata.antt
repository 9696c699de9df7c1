-- The metadata of a sketch, read back.
use Rattle.std.proofs.Common.{◌≡◌, ℕ, Bool, true, false, cond, length, refl}
use Rattle.core_laws.specs.Shown.{Shown}
use Rattle.core_operators.specs.View.{metadata_of}
use Rattle.core_operators.specs.declared.view.ThetaFamilySketchMetadata.TheVariants.{Empty, NonEmpty}

pub reported_empty : (s : Shown) (hash : ℕ) → Empty hash ≡ metadata_of s → s.empty ≡ true
reported_empty s hash reported =
    (elim s.empty as (λ b. s.empty ≡ b → Empty hash ≡ cond b (Empty s.seed_hash) (NonEmpty s.seed_hash s.theta s.ordered (length s.hashes)) → s.empty ≡ true) [
      | true ↦ λ e _. e
      | false ↦ λ _ f. absurd (cc)
    ]) refl reported

pub record IsToldBy (s : Shown) (hash theta : ℕ) (ordered : Bool) : Type 0 where
  pub nonempty : s.empty ≡ false
  pub seed_is : s.seed_hash ≡ hash
  pub theta_is : s.theta ≡ theta
  pub ordered_is : s.ordered ≡ ordered

pub reported_nonempty : (s : Shown) (hash theta count : ℕ) (ordered : Bool) → NonEmpty hash theta ordered count ≡ metadata_of s → IsToldBy s hash theta ordered
reported_nonempty s hash theta count ordered reported =
    (elim s.empty as (λ b. s.empty ≡ b → NonEmpty hash theta ordered count ≡ cond b (Empty s.seed_hash) (NonEmpty s.seed_hash s.theta s.ordered (length s.hashes)) → IsToldBy s hash theta ordered) [
      | true ↦ λ _ f. absurd (cc)
      | false ↦ λ e f. record { nonempty = e; seed_is = cc; theta_is = cc; ordered_is = cc }
    ]) refl reported

pub record IsTold (s : Shown) (theta count : ℕ) : Type 0 where
  pub nonempty : s.empty ≡ false
  pub theta_is : theta ≡ s.theta
  pub count_is : count ≡ length s.hashes

pub reported_counted : (s : Shown) (hash theta count : ℕ) (ordered : Bool) → NonEmpty hash theta ordered count ≡ metadata_of s → IsTold s theta count
reported_counted s hash theta count ordered =
    (elim s.empty as (λ b. s.empty ≡ b → NonEmpty hash theta ordered count ≡ cond b (Empty s.seed_hash) (NonEmpty s.seed_hash s.theta s.ordered (length s.hashes)) → IsTold s theta count) [
      | true ↦ λ e f. absurd (cc)
      | false ↦ λ e f. record { nonempty = e; theta_is = (cc); count_is = (cc) }
    ]) refl
