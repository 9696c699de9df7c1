-- What the evaluation of a plan returns.
use Rattle.std.specs.Prelude.{ℕ, ◌≡◌, ◌⊎◌, ◌^◌, ◌++◌, List, [], ◌∷◌, true, false, Some, None, Result, IfOk, IfErr, OnOk}
use Rattle.sketch_base.specs.Seed.{seed_hash}
use Rattle.sketch_base.specs.declared.error.ErrorKind.{ErrorKind}
use Rattle.sketch_base.specs.declared.error.ErrorKind.TheVariants.{OutOfMemory, Policy}
use Rattle.core_compact.specs.CompactState.{Compact, ordered_sketch}
use Rattle.core_laws.specs.Cuts.{cut}
use Rattle.core_laws.specs.Entries.{hash_key}
use Rattle.core_laws.specs.Folds.{Fold}
use Rattle.core_laws.specs.Leaf.{added, is_updated}
use Rattle.core_laws.specs.Leaf.{kmin as least, whole as whole_map}
use Rattle.core_laws.specs.Refusal.{Refuses}
use Rattle.core_laws.specs.Samples.{IsAllBelow}
use Rattle.core_laws.specs.Values.{NonEmpty}
use Rattle.core_laws.specs.declared.leaf.LeafStep.{LeafStep}
use Rattle.core_laws.specs.declared.leaf.LeafStep.TheVariants.{Trim}
use Rattle.core_slots.specs.Entry.{tuple_key}
use Rattle.core_slots.specs.declared.entry.TupleEntry.{TupleEntry}
use Rattle.plan_text.specs.declared.plan.Plan.{Plan}
use Rattle.plan_text.specs.declared.plan.Plan.TheVariants.{Leaf}
use Rattle.plan_values.specs.Family.{Family, hashes}
use Rattle.plan_values.specs.LawfulLeaf.{IsLawfulLeaf}
use Rattle.plan_values.specs.MergePlan.{IsMergePlan}
use Rattle.plan_values.specs.Refusals.{may_refuse, must_refuse}
use Rattle.plan_values.specs.Value.{value_in, value_of, plan_refusal}
use Rattle.plan_values.specs.WholeStreams.{whole_in, whole_hashes}
use Rattle.plan_evaluation.specs.Answered.{HasKeys, IsOrderedSketchOf}

-- what the evaluation of a plan of theta sketches returns
pub record IsThetaPlanAnswer {Z : Type 0} (seed : ℕ) (p : Plan (Unit {0}) Z) (r : Result (Compact ℕ) ErrorKind) : Type 0 where
  -- the ordered sketch of the plan's value
  pub value : IfOk r (λ s. s ≡ ordered_sketch (value_of p) (seed_hash seed))
  -- which retains exactly the hashes of the whole streams below its theta
  pub whole : OnOk r (IsAllBelow hash_key (value_of p) (whole_hashes p))
  -- if the plan merges leaves, it is the k-minimum of all hashes that were added, whatever the split, order and grouping
  pub merged : (lg_k start : ℕ)
      → IsMergePlan lg_k start p
      → OnOk r (value_of p ≡ NonEmpty (least (2 ^ lg_k) (whole_hashes p) start))
  -- if the plan is a leaf, its theta is the start, or a hash that was added and has at least k smaller ones
  pub lawful : OnOk r (IsLawfulLeaf hashes p)
  -- if the leaf isn't empty and its last step is a trim, it is the k-minimum of the hashes that were added
  pub trimmed : (lg_k start : ℕ) (steps : List (LeafStep (Unit {0})))
      → p ≡ Leaf lg_k start (steps ++ Trim ∷ [])
      → is_updated steps false ≡ true
      → OnOk r (value_of p ≡ NonEmpty (least (2 ^ lg_k) (added steps) start))
  -- it is refused for a setting out of range, and for memory
  pub refused : Refuses r (plan_refusal seed p) true

-- what the evaluation of a plan of tuple sketches returns, in the folds f of their summaries
pub record IsPlanAnswer {S U Z : Type 0}
    (f : Family (Fold (TupleEntry S)) U) (seed : ℕ) (p : Plan U Z) (r : Result (Compact (TupleEntry S)) ErrorKind) : Type 0 where
  -- the ordered sketch of the plan's value, which has no mark
  pub value : IfOk r (IsOrderedSketchOf tuple_key (value_in f p) (seed_hash seed))
  -- which retains exactly the entries of the whole streams' map below its theta
  pub whole : OnOk r (IsAllBelow f.key (value_in f p) (whole_in f p))
  -- if the plan merges leaves, it is the whole streams' map, cut to the k least hashes, whatever the split, order and grouping
  pub merged : (lg_k start : ℕ)
      → IsMergePlan lg_k start p
      → OnOk r (value_in f p ≡ NonEmpty (cut f.key (2 ^ lg_k) (whole_in f p) start))
  -- and its hashes and theta are the k-minimum of all hashes that were added
  pub kmin : (lg_k start : ℕ) → IsMergePlan lg_k start p → IfOk r (HasKeys tuple_key (least (2 ^ lg_k) (whole_hashes p) start))
  -- if the plan is a leaf, its theta is the start, or a hash that was added and has at least k smaller ones
  pub lawful : OnOk r (IsLawfulLeaf f p)
  -- if the leaf isn't empty and its last step is a trim, it is the map of what was added, cut to the k least hashes
  pub trimmed : (lg_k start : ℕ) (steps : List (LeafStep U))
      → p ≡ Leaf lg_k start (steps ++ Trim ∷ [])
      → is_updated steps false ≡ true
      → OnOk r (value_in f p ≡ NonEmpty (cut f.key (2 ^ lg_k) (whole_map f.key f.step_of steps) start))
  -- and its hashes and theta are the k-minimum of those that were added
  pub trimmed_kmin : (lg_k start : ℕ) (steps : List (LeafStep U))
      → p ≡ Leaf lg_k start (steps ++ Trim ∷ [])
      → is_updated steps false ≡ true
      → IfOk r (HasKeys tuple_key (least (2 ^ lg_k) (added steps) start))
  -- there is a sketch only if all settings are in range, and no policy must refuse
  pub accepted : OnOk r (plan_refusal seed p ≡ None)
  pub unrefused : OnOk r (must_refuse f seed p ≡ false)
  -- it is refused for the first setting out of range, if no policy must refuse before it; for memory; or by a policy that may refuse
  -- before the first setting out of range
  pub refused : IfErr r (λ e.
      ((plan_refusal seed p ≡ Some e) × (must_refuse f seed p ≡ false))
      ⊎ ((e ≡ OutOfMemory) ⊎ ((e ≡ Policy) × (may_refuse f seed p ≡ true))))
