-- The theta of a leaf.
use Rattle.std.specs.Prelude.{◌≡◌, ℕ, ◌^◌, List}
use Rattle.core_laws.specs.Samples.{IsLawfulValue}
use Rattle.core_laws.specs.declared.leaf.LeafStep.{LeafStep}
use Rattle.plan_text.specs.declared.plan.Plan.{Plan}
use Rattle.plan_text.specs.declared.plan.Plan.TheVariants as plan
use Rattle.plan_values.specs.Family.{Family}
use Rattle.plan_values.specs.Value.{value_in}
use Rattle.plan_values.specs.WholeStreams.{whole_in}

-- if a plan is a leaf that isn't empty, its theta is its start, or an added hash that has at least k smaller ones
abbrev pub IsLawfulLeaf : {X V Z : Type 0} → Family X V → Plan V Z → Type 0
IsLawfulLeaf {X} {V} {Z} f p =
    (lg_k start : ℕ) (steps : List (LeafStep V))
    → p ≡ plan.Leaf lg_k start steps
    → IsLawfulValue f.key (2 ^ lg_k) start (value_in f p) (whole_in f p)
