-- Plans that no policy must refuse: those of whose leaves none is refused before the first setting out of range.
use Rattle.std.proofs.Common.{◌≡◌, ℕ, zero, suc, ◌<◌, ◌+◌, ◌^◌, Bool, true, false, List, [], ◌∷◌, ◌++◌, length, get_or, take, map, Some, refl, sym, ap, ◌∙◌, arith}
use Rattle.std.specs.Prelude.{◌&&◌, nat_le, is_none}
use Rattle.std.specs.List.{list_any}
use Rattle.std.proofs.lemmas.List.{take_more}
use Rattle.sketch_base.specs.declared.error.ErrorKind.{ErrorKind}
use Rattle.core_laws.specs.Folds.{Fold}
use Rattle.core_laws.specs.Operators.{least}
use Rattle.core_laws.specs.declared.TheConstants.{MIN_LG_K}
use Rattle.core_laws.specs.declared.leaf.LeafStep.{LeafStep}
use Rattle.core_laws.specs.Settings.{settings_refusal}
use Rattle.plan_text.specs.declared.plan.Plan.{Plan}
use Rattle.plan_text.specs.declared.plan.UnionPart.{UnionPart}
use Rattle.plan_text.specs.declared.plan.UnionPart.TheVariants as union_part
use Rattle.plan_text.specs.Parts.{plans_of, lowers_of, part_map}
use Rattle.plan_text.specs.declared.plan.Plan.TheVariants as plan
use Rattle.plan_values.specs.Family.{Family}
use Rattle.plan_values.specs.Refusals.{Traced, steps_refused, parts_refused, turns_refused, traced, must_refuse}
use Rattle.plan_values.specs.Value.{may_be_built, may_have_seed, fits}
use Rattle.plan_values.proofs.NodeEquations.{traced_leaf, traced_union, traced_meet, traced_minus, traced_via}
use Rattle.plan_values.proofs.PlanOutcome.{traced_fits}
use Rattle.plan_values.proofs.RefusedPlans.{may_lower, least_is, left_bad, right_bad}
use Rattle.plan_values.proofs.RefusedSteps.{neither, not_left, not_right}

-- ---- one more plan

module _ {T : Type 0} where
  any-append : (test : T → Bool) (xs : List T) (y : T) → list_any test xs ≡ false → test y ≡ false → list_any test (xs ++ y ∷ []) ≡ false
  any-append test [] y none present = neither _ _ present refl
  any-append test (x ∷ xs) y none present = neither _ _ (not_left _ _ none) (any-append test xs y (not_right (test x) _ none) present)

module _ {X V : Type 0} (Z : Type 0) (f : Family (Fold X) V) (seed : ℕ) where
  free : (t u : Traced X) → t ≡ u → u.refused ≡ false → t.refused ≡ false
  free t u same none = ap (λ (t : Traced X). t.refused) same ∙ none

  -- one more plan that no policy must refuse
  pub more_unrefused : (ps : List (Plan V Z)) (p : Plan V Z) → list_any (must_refuse f seed) ps ≡ false → must_refuse f seed p ≡ false → list_any (must_refuse f seed) (ps ++ p ∷ []) ≡ false
  more_unrefused ps p none present = any-append (must_refuse f seed) ps p none present

  pub next_unrefused : (parts : List (Plan V Z)) (i : ℕ) (d : Plan V Z) → i < length parts → list_any (must_refuse f seed) (take i parts) ≡ false → must_refuse f seed (get_or parts i d) ≡ false → list_any (must_refuse f seed) (take (i + 1) parts) ≡ false
  next_unrefused parts i d lt none present = ap (list_any (must_refuse f seed)) (take_more parts i d lt) ∙ more_unrefused (take i parts) (get_or parts i d) none present

  -- ---- leaves

  module _ (lg_k start : ℕ) (steps : List (LeafStep V)) where
    pub leaf_unrefused : steps_refused f (2 ^ lg_k) start steps ≡ false → must_refuse {Z = Z} f seed (plan.Leaf lg_k start steps) ≡ false
    leaf_unrefused none = free _ _ (traced_leaf Z f seed lg_k start steps) (right_bad (may_be_built lg_k start seed) _ none)

    pub leaf_unbuilt : (e : ErrorKind) → settings_refusal lg_k start seed ≡ Some e → must_refuse {Z = Z} f seed (plan.Leaf lg_k start steps) ≡ false
    leaf_unbuilt e refused = free _ _ (traced_leaf Z f seed lg_k start steps) (left_bad (may_be_built lg_k start seed) _ (ap is_none refused))

  -- ---- unions

  turns_free : (lg_k : ℕ) (parts : List (UnionPart (Plan V Z))) → list_any (must_refuse f seed) (plans_of parts) ≡ false → turns_refused lg_k (map (part_map (traced f seed)) parts) ≡ false
  turns_free lg_k [] none = refl
  turns_free lg_k (union_part.Of p ∷ parts) none = neither (must_refuse f seed p) _ (not_left _ _ none) (right_bad (traced f seed p).fits _ (turns_free lg_k parts (not_right (must_refuse f seed p) _ none)))
  turns_free lg_k (union_part.Lower l ∷ parts) none = right_bad (nat_le MIN_LG_K l && nat_le l lg_k) _ (turns_free l parts none)

  -- what is behind a part that is out of range isn't looked at
  turns_at : (lg_k : ℕ) (parts : List (UnionPart (Plan V Z))) (i : ℕ) (d : UnionPart (Plan V Z)) (p : Plan V Z) → i < length parts → get_or parts i d ≡ union_part.Of p → list_any (must_refuse f seed) (plans_of (take i parts)) ≡ false → must_refuse f seed p ≡ false → fits seed p ≡ false →
      turns_refused lg_k (map (part_map (traced f seed)) parts) ≡ false
  turns_at lg_k [] i d p lt is none present bad = absurd (omega arith)
  turns_at lg_k (union_part.Of q ∷ parts) zero d p lt is none present bad =
      let same : q ≡ p = cc in
      neither (must_refuse f seed q) _ (ap (must_refuse f seed) same ∙ present) (left_bad (traced f seed q).fits _ (traced_fits Z f seed q ∙ ap (fits seed) same ∙ bad))
  turns_at lg_k (union_part.Lower l ∷ parts) zero d p lt is none present bad = absurd cc
  turns_at lg_k (union_part.Of q ∷ parts) (suc i) d p lt is none present bad =
      neither (must_refuse f seed q) _ (not_left _ _ none) (right_bad (traced f seed q).fits _ (turns_at lg_k parts i d p (omega arith) is (not_right (must_refuse f seed q) _ none) present bad))
  turns_at lg_k (union_part.Lower l ∷ parts) (suc i) d p lt is none present bad = right_bad (nat_le MIN_LG_K l && nat_le l lg_k) _ (turns_at l parts i d p (omega arith) is none present bad)

  turns_lowered : (lg_k : ℕ) (parts : List (UnionPart (Plan V Z))) (i : ℕ) (d : UnionPart (Plan V Z)) (l : ℕ) → i < length parts → get_or parts i d ≡ union_part.Lower l → list_any (must_refuse f seed) (plans_of (take i parts)) ≡ false → may_lower lg_k (lowers_of (take i parts)) l ≡ false →
      turns_refused lg_k (map (part_map (traced f seed)) parts) ≡ false
  turns_lowered lg_k [] i d l lt is none bad = absurd (omega arith)
  turns_lowered lg_k (union_part.Of q ∷ parts) zero d l lt is none bad = absurd cc
  turns_lowered lg_k (union_part.Lower m ∷ parts) zero d l lt is none bad = let same : m ≡ l = cc in left_bad (nat_le MIN_LG_K m && nat_le m lg_k) _ (ap (λ (n : ℕ). nat_le MIN_LG_K n && nat_le n lg_k) same ∙ bad)
  turns_lowered lg_k (union_part.Of q ∷ parts) (suc i) d l lt is none bad =
      neither (must_refuse f seed q) _ (not_left _ _ none) (right_bad (traced f seed q).fits _ (turns_lowered lg_k parts i d l (omega arith) is (not_right (must_refuse f seed q) _ none) bad))
  turns_lowered lg_k (union_part.Lower m ∷ parts) (suc i) d l lt is none bad =
      (elim (nat_le MIN_LG_K m && nat_le m lg_k) as (λ b. (nat_le MIN_LG_K m && nat_le m lg_k) ≡ b → (b && turns_refused m (map (part_map (traced f seed)) parts)) ≡ false) [
        | true ↦ λ e. turns_lowered m parts i d l (omega arith) is none (ap (λ (n : ℕ). nat_le MIN_LG_K l && nat_le l (least n (lowers_of (take i parts)))) (sym (least_is lg_k m e)) ∙ bad)
        | false ↦ λ e. refl
      ]) refl

  module _ (lg_k start : ℕ) (parts : List (UnionPart (Plan V Z))) where
    pub union_unrefused : list_any (must_refuse f seed) (plans_of parts) ≡ false → must_refuse f seed (plan.Union lg_k start parts) ≡ false
    union_unrefused none = free _ _ (traced_union Z f seed lg_k start parts) (right_bad (may_be_built lg_k start seed) _ (turns_free lg_k parts none))

    pub union_part_unrefused : (i : ℕ) (d : UnionPart (Plan V Z)) (p : Plan V Z) → i < length parts → get_or parts i d ≡ union_part.Of p → list_any (must_refuse f seed) (plans_of (take i parts)) ≡ false → must_refuse f seed p ≡ false → fits seed p ≡ false → must_refuse f seed (plan.Union lg_k start parts) ≡ false
    union_part_unrefused i d p lt is none present bad = free _ _ (traced_union Z f seed lg_k start parts) (right_bad (may_be_built lg_k start seed) _ (turns_at lg_k parts i d p lt is none present bad))

    pub union_lower_unrefused : (i : ℕ) (d : UnionPart (Plan V Z)) (l : ℕ) → i < length parts → get_or parts i d ≡ union_part.Lower l → list_any (must_refuse f seed) (plans_of (take i parts)) ≡ false → may_lower lg_k (lowers_of (take i parts)) l ≡ false → must_refuse f seed (plan.Union lg_k start parts) ≡ false
    union_lower_unrefused i d l lt is none bad = free _ _ (traced_union Z f seed lg_k start parts) (right_bad (may_be_built lg_k start seed) _ (turns_lowered lg_k parts i d l lt is none bad))

  -- ---- intersections

  parts_free : (parts : List (Plan V Z)) → list_any (must_refuse f seed) parts ≡ false → parts_refused (map (traced f seed) parts) ≡ false
  parts_free [] none = refl
  parts_free (q ∷ parts) none = neither (must_refuse f seed q) _ (not_left _ _ none) (right_bad (traced f seed q).fits _ (parts_free parts (not_right (must_refuse f seed q) _ none)))

  parts_at : (parts : List (Plan V Z)) (i : ℕ) (d : Plan V Z) → i < length parts → list_any (must_refuse f seed) (take i parts) ≡ false → must_refuse f seed (get_or parts i d) ≡ false → fits seed (get_or parts i d) ≡ false → parts_refused (map (traced f seed) parts) ≡ false
  parts_at [] i d lt none present bad = absurd (omega arith)
  parts_at (q ∷ parts) zero d lt none present bad = neither (must_refuse f seed q) _ present (left_bad (traced f seed q).fits _ (traced_fits Z f seed q ∙ bad))
  parts_at (q ∷ parts) (suc i) d lt none present bad = neither (must_refuse f seed q) _ (not_left _ _ none) (right_bad (traced f seed q).fits _ (parts_at parts i d (omega arith) (not_right (must_refuse f seed q) _ none) present bad))

  module _ (parts : List (Plan V Z)) where
    pub meet_unrefused : list_any (must_refuse f seed) parts ≡ false → must_refuse f seed (plan.Meet parts) ≡ false
    meet_unrefused none = free _ _ (traced_meet Z f seed parts) (right_bad (may_have_seed seed) _ (parts_free parts none))

    pub meet_part_unrefused : (i : ℕ) (d : Plan V Z) → i < length parts → list_any (must_refuse f seed) (take i parts) ≡ false → must_refuse f seed (get_or parts i d) ≡ false → fits seed (get_or parts i d) ≡ false → must_refuse f seed (plan.Meet parts) ≡ false
    meet_part_unrefused i d lt none present bad = free _ _ (traced_meet Z f seed parts) (right_bad (may_have_seed seed) _ (parts_at parts i d lt none present bad))

  -- ---- differences, and what is written and read

  module _ (first second : Plan V Z) where
    pub minus_first_unrefused : must_refuse f seed first ≡ false → fits seed first ≡ false → must_refuse f seed (plan.Minus first second) ≡ false
    minus_first_unrefused present bad =
        free _ _ (traced_minus Z f seed first second) (right_bad (may_have_seed seed) _ (neither (must_refuse f seed first) _ present (left_bad (traced f seed first).fits _ (traced_fits Z f seed first ∙ bad))))

    pub minus_unrefused : must_refuse f seed first ≡ false → must_refuse f seed second ≡ false → must_refuse f seed (plan.Minus first second) ≡ false
    minus_unrefused one two = free _ _ (traced_minus Z f seed first second) (right_bad (may_have_seed seed) _ (neither (must_refuse f seed first) _ one (right_bad (traced f seed first).fits _ two)))

  pub via_unrefused : (ordered : Bool) (part : Plan V Z) → must_refuse f seed part ≡ false → must_refuse f seed (plan.Via ordered part) ≡ false
  via_unrefused ordered part none = free _ _ (traced_via Z f seed ordered part) none
