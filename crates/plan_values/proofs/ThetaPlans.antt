-- Accepted theta plans: they have all of their whole streams below their theta, and the k least if they merge or are
-- trimmed.
use Rattle.std.proofs.Common.{◌≡◌, ℕ, ◌^◌, true, false, List, [], ◌∷◌, ◌++◌, None}
use Rattle.core_laws.specs.Entries.{hash_key}
use Rattle.core_laws.specs.Leaf.{is_updated, added, kmin}
use Rattle.core_laws.specs.Samples.{IsAllBelow}
use Rattle.core_laws.specs.Values.{NonEmpty}
use Rattle.core_laws.specs.declared.leaf.LeafStep.{LeafStep}
use Rattle.core_laws.specs.declared.leaf.LeafStep.TheVariants.{Trim}
use Rattle.plan_text.specs.declared.plan.Plan.{Plan}
use Rattle.plan_text.specs.declared.plan.Plan.TheVariants as plan
use Rattle.plan_values.specs.Family.{hashes}
use Rattle.plan_values.specs.MergePlan.{IsMergePlan}
use Rattle.plan_values.specs.Value.{value_of, plan_refusal}
use Rattle.plan_values.specs.WholeStreams.{whole_hashes}
use Rattle.plan_values.proofs.KnownFamilies.{hashes_keep}
use Rattle.plan_values.proofs.MergePlans.{merge_plan}
use Rattle.plan_values.proofs.Samples.{sampled}
use Rattle.plan_values.proofs.TrimmedLeaf.{trimmed_plan}

module _ {Z : Type 0} (seed : ℕ) (p : Plan (Unit {0}) Z) (accepts : plan_refusal seed p ≡ None) where
  -- the value of a theta plan has all of its whole map below its theta
  pub whole_kept : IsAllBelow hash_key (value_of p) (whole_hashes p)
  whole_kept = (sampled Z hashes hashes_keep seed p accepts).all_below

  -- a merge plan is the k-minimum of what was added
  pub merge_kept : (lg_k start : ℕ) → IsMergePlan lg_k start p → value_of p ≡ NonEmpty (kmin (2 ^ lg_k) (whole_hashes p) start)
  merge_kept = merge_plan hashes hashes_keep seed p accepts

module _ {Z : Type 0} (seed lg_k start : ℕ) (steps : List (LeafStep (Unit {0}))) (p : Plan (Unit {0}) Z) (is : p ≡ plan.Leaf lg_k start (steps ++ Trim ∷ [])) (updated : is_updated steps false ≡ true) where
  -- so is a leaf that is updated and then trimmed
  pub value_trimmed : plan_refusal seed p ≡ None → value_of p ≡ NonEmpty (kmin (2 ^ lg_k) (added steps) start)
  value_trimmed = trimmed_plan hashes hashes_keep seed lg_k start steps p is updated
