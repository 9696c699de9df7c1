-- Plans that are a leaf: the theta is lawful, and after a trim the value is a cut.
use Rattle.std.proofs.Common.{◌≡◌, ℕ, ◌^◌, true, false, List, [], ◌∷◌, ◌++◌, None, sym, ap, ◌∙◌}
use Rattle.core_laws.specs.Cuts.{cut}
use Rattle.core_laws.specs.Leaf.{is_updated, whole}
use Rattle.core_laws.specs.Values.{NonEmpty}
use Rattle.core_laws.specs.declared.leaf.LeafStep.{LeafStep}
use Rattle.core_laws.specs.declared.leaf.LeafStep.TheVariants.{Trim}
use Rattle.core_laws.specs.Settings.{settings_refusal}
use Rattle.core_laws.proofs.insertions.Leaves.{leaf-lawful, trimmed}
use Rattle.plan_text.specs.declared.plan.Plan.{Plan}
use Rattle.plan_text.specs.declared.plan.Plan.TheVariants as plan
use Rattle.plan_values.specs.Family.{Family, IsFamily}
use Rattle.plan_values.specs.Value.{value_in, plan_refusal}
use Rattle.plan_values.specs.LawfulLeaf.{IsLawfulLeaf}
use Rattle.plan_values.proofs.AcceptedSettings.{start_fits}
use Rattle.plan_values.proofs.NodeEquations.{value_leaf, whole_leaf}
use Rattle.plan_values.proofs.RefusedPlans.{refused_leaf}

module _ {X V Z : Type 0} (f : Family X V) (lawful : IsFamily f) (seed lg_k start : ℕ) (steps : List (LeafStep V)) (p : Plan V Z) (is : p ≡ plan.Leaf lg_k start (steps ++ Trim ∷ [])) (updated : is_updated steps false ≡ true) where
  -- a leaf that is updated and then trimmed is the cut of its whole map at its start
  pub trimmed_plan : plan_refusal seed p ≡ None → value_in f p ≡ NonEmpty (cut f.key (2 ^ lg_k) (whole f.key f.step_of steps) start)
  trimmed_plan accepts =
      let own : settings_refusal lg_k start seed ≡ None = sym (refused_leaf Z seed lg_k start (steps ++ Trim ∷ [])) ∙ sym (ap (plan_refusal seed) is) ∙ accepts in
      ap (value_in f) is ∙ value_leaf Z f lg_k start (steps ++ Trim ∷ [])
      ∙ trimmed f.key f.step_of lawful.steps (2 ^ lg_k) start steps (start_fits lg_k start seed own) updated

module _ {X V Z : Type 0} (f : Family X V) (lawful : IsFamily f) (seed : ℕ) (p : Plan V Z) where
  pub lawful_leaf : plan_refusal seed p ≡ None → IsLawfulLeaf f p
  lawful_leaf accepts lg_k start steps is =
      let own : settings_refusal lg_k start seed ≡ None = sym (refused_leaf Z seed lg_k start steps) ∙ sym (ap (plan_refusal seed) is) ∙ accepts in
      rw (is, value_leaf Z f lg_k start steps, whole_leaf Z f lg_k start steps) (leaf-lawful f.key f.step_of lawful.steps (2 ^ lg_k) start steps (start_fits lg_k start seed own))
