-- Insertions among values without marks are insertions of folds.
use Rattle.std.proofs.Common.{◌≡◌, ℕ, Bool, true, false, cond, Some, None, is_some, refl, ap, ◌∙◌, ◌<◌, List, [], ◌∷◌, map}
use Rattle.sketch_base.specs.declared.error.ErrorKind.{ErrorKind}
use Rattle.sketch_base.specs.declared.error.ErrorKind.TheVariants.{Policy}
use Rattle.core_laws.specs.Refusal.{policy_refusal}
use Rattle.core_laws.specs.Cuts.{Retained}
use Rattle.core_laws.specs.Folds.{fold_writes, folded, Fold, Value, Refused, fold_key, fold_merges, unmarked, never}
use Rattle.core_laws.specs.Insertion.{after_upsert, upsert_refusal}
use Rattle.core_laws.specs.Step.{merge_step}
use Rattle.core_laws.proofs.insertions.FoldedSteps.{unmarked-step}
use Rattle.std.specs.List.{AllByRecursion}
use Rattle.core_laws.specs.Maps.{IsAscending}
use Rattle.core_laws.proofs.maps.Ascending.{ascending-head, ascending-tail, ascending-nil, ascending-cons}
use Rattle.core_laws.specs.Entries.{KeepsKey}

-- a policy whose refusal is none has not refused, and one with a kind has refused, with `Policy`
pub not_refused : (refused : Bool) → policy_refusal refused ≡ None → refused ≡ false
not_refused true e = absurd (cc)
not_refused false e = refl

-- if there is a refusal, the policy has refused, with `Policy`
pub was_refused : (refused : Bool) (kind : ErrorKind) → policy_refusal refused ≡ Some kind → (refused ≡ true) × (kind ≡ Policy)
was_refused true kind e = (refl, (cc))
was_refused false kind e = absurd (cc)

module _ {X : Type 0} (key : X → ℕ) (merges : X → X → X) (refuses : X → X → Bool) where
  -- merges of folds keep the key if merges of entries do
  pub fold_keeps : KeepsKey key merges → (x y : Fold X) → fold_key key x ≡ fold_key key y → fold_key key (fold_merges key merges refuses x y) ≡ fold_key key y
  fold_keeps keeps (Refused h) y same = same
  fold_keeps keeps (Value x) (Refused h) same = same
  fold_keeps keeps (Value x) (Value y) same =
      elim (refuses x y) as (λ b. fold_key key (cond b (Refused (key x)) (Value (merges x y))) ≡ key y) [ true ↦ same | false ↦ keeps x y same ]

  folded_writes : (x : X) (f : Fold X) → fold_writes key (merge_step merges refuses x) f ≡ fold_merges key merges refuses f (Value x)
  folded_writes x (Refused h) = refl
  folded_writes x (Value w) =
      elim (refuses w x) as (λ b. cond (is_some (policy_refusal b)) (Refused (key w)) (Value (merges w x)) ≡ cond b (Refused (key w)) (Value (merges w x))) [ true ↦ refl | false ↦ refl ]

  -- a merge's step on folds is a merge of folds
  folded_merge : (x : X) → folded key (key x) (merge_step merges refuses x) ≡ merge_step (fold_merges key merges refuses) never (Value x)
  folded_merge x = λ i. record { writes = λ f. folded_writes x f i; refuses_existing = λ f. None; makes = Some (Value x); refuses_absent = None; allocates = true }

  pub unmarked-upsert : (k : ℕ) (x : X) (v : Retained X) → upsert_refusal key (key x) (merge_step merges refuses x) v ≡ None →
      unmarked (after_upsert key k (key x) (merge_step merges refuses x) v) ≡ after_upsert (fold_key key) k (key x) (merge_step (fold_merges key merges refuses) never (Value x)) (unmarked v)
  unmarked-upsert k x v allowed =
      unmarked-step key k (key x) (merge_step merges refuses x) v allowed ∙ ap (λ step. after_upsert (fold_key key) k (key x) step (unmarked v)) (folded_merge x)

module _ {X : Type 0} (key : X → ℕ) where
  pub each-marked : (P : ℕ → Type 0) (xs : List X) → AllByRecursion (λ x. P (key x)) xs → AllByRecursion (λ x. P (fold_key key x)) (map Value xs)
  each-marked P [] all = tt
  each-marked P (x ∷ xs) all = (all.0, each-marked P xs all.1)

  pub ascending-marked : (xs : List X) → IsAscending key xs → IsAscending (fold_key key) (map Value xs)
  ascending-marked [] up = ascending-nil (fold_key key)
  ascending-marked (x ∷ xs) up = ascending-cons (fold_key key) (Value x) (map Value xs) (each-marked (λ h. key x < h) xs (ascending-head key x xs up)) (ascending-marked xs (ascending-tail key x xs up))
