-- Answers of differences, in folds.
use Rattle.std.proofs.Common.{◌≡◌, ℕ, Bool, Result, Ok, Err, sym, ap, ◌∙◌, subst}
use Rattle.std.specs.Prelude.{IfOk}
use Rattle.sketch_base.specs.declared.error.ErrorKind.{ErrorKind}
use Rattle.core_compact.specs.CompactState.{Compact, IsAnswer, compact_value}
use Rattle.core_compact.proofs.Answered.{answer-value}
use Rattle.core_laws.specs.Folds.{Fold, fold_key, unmarked_value}
use Rattle.core_laws.specs.Operators.{minus}
use Rattle.core_laws.specs.Values.{Sketch}
use Rattle.plan_values.proofs.UnmarkedValues.{minus_unmarked}
use Rattle.plan_evaluation.specs.Parts.{IsFoldAnswer}

module _ {X : Type 0} (key : X → ℕ) where
  -- an answer with the difference of two values has the difference of their folds
  pub fold_answer : (a b : Sketch X) (u v : Sketch (Fold X)) → unmarked_value a ≡ u → unmarked_value b ≡ v → (d : Sketch X) → d ≡ minus key key a b → (h seed_hash : ℕ) → h ≡ seed_hash → (is asked : Bool) → is ≡ asked →
      (r : Result (Compact X) ErrorKind) → IfOk r (IsAnswer key d h is) → IfOk r (IsFoldAnswer key (minus (fold_key key) (fold_key key) u v) seed_hash asked)
  fold_answer a b u v first second d difference h seed_hash same_seed is asked same_order (Err e) answers = tt
  fold_answer a b u v first second d difference h seed_hash same_seed is asked same_order (Ok s) answers =
      let value : compact_value key s ≡ d = answer-value key d h is s answers in (
        ap unmarked_value (value ∙ difference) ∙ sym (minus_unmarked key a b) ∙ ap (λ w. minus (fold_key key) (fold_key key) w (unmarked_value b)) first ∙ ap (λ w. minus (fold_key key) (fold_key key) u w) second,
        subst (λ (b : Bool). IsAnswer key (compact_value key s) seed_hash b s) same_order (subst (λ (n : ℕ). IsAnswer key (compact_value key s) n is s) same_seed (subst (λ w. IsAnswer key w h is s) (sym value) answers)),
      )
