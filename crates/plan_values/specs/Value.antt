-- The value of a plan.
use Rattle.std.specs.Prelude.{ℕ, ◌^◌, ◌&&◌, nat_le, Bool, true, List, [], ◌∷◌, is_none, if◌then◌else◌, Option, Some}
use Rattle.std.specs.Prelude.{None}
use Rattle.std.specs.List.{list_all}
use Rattle.sketch_base.specs.declared.error.ErrorKind.{ErrorKind}
use Rattle.sketch_base.specs.declared.error.ErrorKind.TheVariants.{InvalidArgument}
use Rattle.core_laws.specs.declared.TheConstants.{MIN_LG_K}
use Rattle.core_operators.specs.Intersection.{seed_refusal}
use Rattle.core_laws.specs.Leaf.{leaf}
use Rattle.core_laws.specs.Operators.{least, unite, meet, minus}
use Rattle.core_laws.specs.Values.{Sketch}
use Rattle.core_laws.specs.Settings.{settings_refusal}
use Rattle.plan_text.specs.Parts.{plans_of, lowers_of}
use Rattle.plan_text.specs.declared.plan.Plan.{Plan}
use Rattle.plan_text.specs.declared.plan.Plan.TheOpen.{Plan-F}
use Rattle.plan_text.specs.declared.plan.Plan.TheFolds.{fold-Plan}
use Rattle.plan_values.specs.Family.{Family, hashes}

-- the value of a node: of a leaf by its steps, of an operator by the values of its parts, where a union has the least
-- nominal entries that it is lowered to, and of an image the value of its part
abbrev pub node_value : {X V Z : Type 0} → Family X V → Plan-F V Z (Sketch X) → Sketch X
node_value f (Plan-F.Leaf lg_k start steps) = leaf f.key f.step_of (2 ^ lg_k) start steps
node_value f (Plan-F.Union lg_k start parts) = unite f.key f.merges (2 ^ least lg_k (lowers_of parts)) start (plans_of parts)
node_value f (Plan-F.Meet parts) = meet f.key f.merges parts
node_value f (Plan-F.Minus first second) = minus f.key f.key first second
node_value f (Plan-F.Via ordered part) = part

-- the value of a plan in a family
abbrev pub value_in : {X V Z : Type 0} → Family X V → Plan V Z → Sketch X
value_in {X} {V} {Z} f = fold-Plan V Z (Sketch X) (node_value f)

-- the value of a theta plan
abbrev pub value_of : {Z : Type 0} → Plan (Unit {0}) Z → Sketch ℕ
value_of = value_in hashes

-- whether a sketch or a union may be built with these settings
abbrev pub may_be_built : (lg_k start seed : ℕ) → Bool
may_be_built lg_k start seed = is_none (settings_refusal lg_k start seed)

-- whether an operator without settings may be built with this seed
abbrev pub may_have_seed : (seed : ℕ) → Bool
may_have_seed seed = is_none (seed_refusal seed)

-- whether a union of this `lg_k` may be lowered to these in turn: each is from the least that a sketch may have to the one
-- before it, the first to the union's own
abbrev pub may_be_lowered : (lg_k : ℕ) → List ℕ → Bool
may_be_lowered lg_k [] = true
may_be_lowered lg_k (l ∷ ls) = (nat_le MIN_LG_K l && nat_le l lg_k) && may_be_lowered l ls

-- whether every node of a plan may be built with its settings under a seed, and every union lowered as its parts say
abbrev pub node_fits : {V Z : Type 0} → (seed : ℕ) → Plan-F V Z Bool → Bool
node_fits seed (Plan-F.Leaf lg_k start steps) = may_be_built lg_k start seed
node_fits seed (Plan-F.Union lg_k start parts) =
    may_be_built lg_k start seed
    && (may_be_lowered lg_k (lowers_of parts) && list_all (λ fits. fits) (plans_of parts))
node_fits seed (Plan-F.Meet parts) = may_have_seed seed && list_all (λ fits. fits) parts
node_fits seed (Plan-F.Minus first second) = may_have_seed seed && (first && second)
node_fits seed (Plan-F.Via ordered part) = part

abbrev pub fits : {V Z : Type 0} → (seed : ℕ) → Plan V Z → Bool
fits {V} {Z} seed = fold-Plan V Z Bool (node_fits seed)

-- the error that refuses a plan: for settings that no sketch may have, a lowering that its union may not have, or the seed
abbrev pub plan_refusal : {V Z : Type 0} → (seed : ℕ) → Plan V Z → Option ErrorKind
plan_refusal seed plan = if fits seed plan then None else Some InvalidArgument
