-- The one sketch of a plan, ordered.
use Rattle.std.proofs.Common.{◌≡◌, ℕ, Bool, true, false, Result, Ok, Err, Some, None, inl, inr, refl, ap, ◌∙◌}
use Rattle.std.specs.Prelude.{◌||◌, ◌⊎◌, IfOk, IfErr, OnOk}
use Rattle.sketch_base.specs.declared.error.ErrorKind.{ErrorKind}
use Rattle.sketch_base.specs.declared.error.ErrorKind.TheVariants.{OutOfMemory, Policy}
use Rattle.core_laws.specs.Entries.{hash_key}
use Rattle.core_laws.specs.Folds.{Fold, never}
use Rattle.core_laws.specs.Refusal.{Refuses}
use Rattle.core_laws.specs.Values.{Sketch, Empty, NonEmpty}
use Rattle.core_compact.specs.CompactState.{Compact as State, IsAnswer, compact_value, ordered_sketch}
use Rattle.plan_text.specs.declared.plan.Plan.{Plan}
use Rattle.plan_values.specs.Family.{Family, hashes, folds_of}
use Rattle.plan_values.specs.Refusals.{may_refuse, must_refuse}
use Rattle.plan_values.specs.Value.{value_in, value_of, plan_refusal}
use Rattle.plan_values.proofs.PlansWithoutMarks.{theta_unmarked}
use Rattle.plan_values.proofs.UnmarkedValues.{unmarked_distinct}
use Rattle.plan_evaluation.specs.Answered.{IsOrderedSketchOf}
use Rattle.plan_evaluation.specs.Parts.{IsFoldAnswer}
use Rattle.plan_evaluation.specs.Refused.{IsPlanRefused}

module _ {X : Type 0} (key : X → ℕ) where
  -- an answer that is ordered is the ordered sketch of its value
  ordered_is : (v : Sketch X) (h : ℕ) (s : State X) → IsAnswer key v h true s → s ≡ ordered_sketch v h
  ordered_is Empty h s answer = answer
  ordered_is (NonEmpty v) h s answer = λ i. record { empty = answer.nonempty i; entries = answer.in_order answer.ordered_if i; theta = answer.same_theta i; seed_hash = answer.same_seed i; ordered = answer.ordered_if i }

  pub answers_ordered : {C : Type 0} (listed : C → State X) (v : Sketch (Fold X)) (h : ℕ) (own : Bool) (r : Result C ErrorKind) → IfOk r (λ c. IsFoldAnswer key v h (true || own) (listed c)) → IfOk r (λ c. IsOrderedSketchOf key v h (listed c))
  answers_ordered listed v h own (Ok c) answer = (answer.0, ordered_is (compact_value key (listed c)) h (listed c) answer.1)
  answers_ordered listed v h own (Err e) answer = tt

-- theta sketches have hashes for folds
pub theta_sketch : {Z : Type 0} (p : Plan (Unit {0}) Z) (h : ℕ) (r : Result (State ℕ) ErrorKind) → IfOk r (λ s. IsOrderedSketchOf hash_key (value_in (folds_of hashes never) p) h s) → IfOk r (λ s. s ≡ ordered_sketch (value_of p) h)
theta_sketch p h (Ok s) is = is.1 ∙ ap (λ v. ordered_sketch v h) (unmarked_distinct _ _ (is.0 ∙ theta_unmarked p))
theta_sketch p h (Err e) is = tt

module _ {X V Z : Type 0} (f : Family (Fold X) V) (seed : ℕ) (p : Plan V Z) where
  -- a plan of a family whose policies refuse nothing is refused for its settings and for memory alone
  pub refused_settings : {T : Type 0} (r : Result T ErrorKind) → OnOk r (plan_refusal seed p ≡ None) → IfErr r (IsPlanRefused f false seed p) → Refuses r (plan_refusal seed p) true
  refused_settings (Ok x) accepted refused = accepted
  refused_settings (Err e) accepted (inl r) = inl r.0
  refused_settings (Err e) accepted (inr (inl memory)) = inr (memory, refl)
  refused_settings (Err e) accepted (inr (inr policy)) = absurd (let no = policy.1 in cc)

  -- one of any other family also for its policies
  pub refused_policy : {T : Type 0} (r : Result T ErrorKind) → IfErr r (IsPlanRefused f true seed p) → IfErr r (λ e. ((plan_refusal seed p ≡ Some e) × (must_refuse f seed p ≡ false)) ⊎ ((e ≡ OutOfMemory) ⊎ ((e ≡ Policy) × (may_refuse f seed p ≡ true))))
  refused_policy (Ok x) refused = tt
  refused_policy (Err e) (inl r) = inl r
  refused_policy (Err e) (inr (inl memory)) = inr (inl memory)
  refused_policy (Err e) (inr (inr policy)) = inr (inr (policy.0, policy.2))
