-- Where a leaf's step in turn is refused, and the settings before it fit, a policy must refuse; and where it must, it may.
use Rattle.std.proofs.Common.{◌≡◌, ℕ, zero, suc, ◌<◌, ◌^◌, Bool, true, false, List, [], ◌∷◌, length, get_or, take, map, None, is_none, refl, sym, ap, ◌∙◌, arith}
use Rattle.std.specs.Prelude.{◌||◌, ◌&&◌, nat_le}
use Rattle.std.specs.List.{list_all, AllByRecursion}
use Rattle.core_laws.specs.Cuts.{none_below}
use Rattle.core_laws.specs.Folds.{Fold, has_mark}
use Rattle.core_laws.specs.Leaf.{leaf_from}
use Rattle.core_laws.specs.declared.TheConstants.{MIN_LG_K}
use Rattle.core_laws.specs.declared.leaf.LeafStep.{LeafStep}
use Rattle.core_laws.proofs.insertions.Cases.{or_left, or_right}
use Rattle.core_operators.specs.Intersection.{seed_refusal}
use Rattle.plan_text.specs.declared.plan.Plan.{Plan}
use Rattle.plan_text.specs.declared.plan.UnionPart.{UnionPart}
use Rattle.plan_text.specs.declared.plan.UnionPart.TheVariants as union_part
use Rattle.plan_text.specs.Parts.{plans_of, lowers_of, part_map}
use Rattle.plan_text.specs.declared.plan.Plan.TheVariants as plan
use Rattle.plan_values.specs.Family.{Family}
use Rattle.plan_values.specs.Refusals.{Traced, step_refused, parts_marked, turns_marked, parts_refused, turns_refused, traced, may_refuse, must_refuse}
use Rattle.plan_values.specs.Value.{may_be_built, may_have_seed, may_be_lowered, fits, plan_refusal}
use Rattle.plan_values.specs.WholeStreams.{joined_of, shared_of}
use Rattle.plan_values.proofs.AcceptedSettings.{both, accepted, and_left, and_right}
use Rattle.plan_values.proofs.EveryPlan.{every_plan}
use Rattle.plan_values.proofs.NodeEquations.{traced_leaf, traced_union, traced_meet, traced_minus, traced_via, fits_leaf, fits_union, fits_meet}
use Rattle.plan_values.proofs.PlanOutcome.{traced_fits}
use Rattle.plan_values.proofs.RefusedSteps.{in_turn}

module _ {X V : Type 0} (Z : Type 0) (f : Family (Fold X) V) (seed : ℕ) where
  abbrev MayIfMust : Plan V Z → Type 0
  MayIfMust p = must_refuse f seed p ≡ true → may_refuse f seed p ≡ true

  marked_of : (t u : Traced X) → t ≡ u → (u.refused ≡ true → u.marked ≡ true) → t.refused ≡ true → t.marked ≡ true
  marked_of t u same may must = ap (λ (t : Traced X). t.marked) same ∙ may (sym (ap (λ (t : Traced X). t.refused) same) ∙ must)

  -- a part that is refused, or one behind it
  one_may : (must may fit present later rest : Bool) → (must ≡ true → may ≡ true) → (rest ≡ true → later ≡ true) → (must || (fit && rest)) ≡ true → (may || (fit && (present || later))) ≡ true
  one_may true may fit present later rest one more e = or_left _ _ (one refl)
  one_may false may fit present later rest one more e = or_right may _ (both fit _ (and_left _ _ e) (or_right present _ (more (and_right fit _ e))))

  turns_may : (test : List (List (Fold X)) → Bool) (lg_k : ℕ) (parts : List (UnionPart (Plan V Z))) → AllByRecursion MayIfMust (plans_of parts) → turns_refused lg_k (map (part_map (traced f seed)) parts) ≡ true → turns_marked test lg_k (map (part_map (traced f seed)) parts) ≡ true
  turns_may test lg_k [] each must = absurd (cc)
  turns_may test lg_k (union_part.Of p ∷ parts) each must =
      let w = (traced f seed p).whole_map in
      one_may (must_refuse f seed p) (may_refuse f seed p) (traced f seed p).fits (test (w ∷ [])) _ _ each.0 (turns_may (λ begun. test (w ∷ begun)) lg_k parts each.1) must
  turns_may test lg_k (union_part.Lower l ∷ parts) each must = both (nat_le MIN_LG_K l && nat_le l lg_k) _ (and_left _ _ must) (turns_may test l parts each (and_right (nat_le MIN_LG_K l && nat_le l lg_k) _ must))

  parts_may : (test : List (List (Fold X)) → Bool) (parts : List (Plan V Z)) → AllByRecursion MayIfMust parts → parts_refused (map (traced f seed) parts) ≡ true → parts_marked test (map (traced f seed) parts) ≡ true
  parts_may test [] each must = absurd (cc)
  parts_may test (p ∷ parts) each must =
      let w = (traced f seed p).whole_map in
      one_may (must_refuse f seed p) (may_refuse f seed p) (traced f seed p).fits (test (w ∷ [])) _ _ each.0 (parts_may (λ begun. test (w ∷ begun)) parts each.1) must

  either_may : (must may fit later rest : Bool) → (must ≡ true → may ≡ true) → (rest ≡ true → later ≡ true) → (must || (fit && rest)) ≡ true → (may || (fit && later)) ≡ true
  either_may true may fit later rest one more e = or_left _ _ (one refl)
  either_may false may fit later rest one more e = or_right may _ (both fit _ (and_left _ _ e) (more (and_right fit _ e)))

  -- where a policy must refuse, it may
  pub must_may : (p : Plan V Z) → must_refuse f seed p ≡ true → may_refuse f seed p ≡ true
  must_may = every_plan Z MayIfMust (record {
    leaf = λ a b steps. marked_of _ _ (traced_leaf Z f seed a b steps) (λ must. must);
    union = λ a b parts each. marked_of _ _ (traced_union Z f seed a b parts) (λ must.
        both (may_be_built a b seed) _ (and_left _ _ must) (turns_may (λ begun. has_mark (joined_of f begun)) a parts each (and_right (may_be_built a b seed) _ must)));
    meet = λ parts each. marked_of _ _ (traced_meet Z f seed parts) (λ must.
        both (may_have_seed seed) _ (and_left _ _ must) (parts_may (λ begun. has_mark (shared_of f begun)) parts each (and_right (may_have_seed seed) _ must)));
    minus = λ first second one two. marked_of _ _ (traced_minus Z f seed first second) (λ must.
        both (may_have_seed seed) _ (and_left _ _ must)
        (either_may (must_refuse f seed first) (may_refuse f seed first) (traced f seed first).fits (may_refuse f seed second) (must_refuse f seed second) one two (and_right (may_have_seed seed) _ must)));
    via = λ ordered part one. marked_of _ _ (traced_via Z f seed ordered part) one;
  })

-- ---- where it must

module _ {X V : Type 0} (Z : Type 0) (f : Family (Fold X) V) (seed : ℕ) where
  sure : (t u : Traced X) → t ≡ u → u.refused ≡ true → t.refused ≡ true
  sure t u same must = ap (λ (t : Traced X). t.refused) same ∙ must

  pub leaf_must : (lg_k start : ℕ) (steps : List (LeafStep V)) (i : ℕ) (d : LeafStep V) → i < length steps → plan_refusal {V = V} {Z = Z} seed (plan.Leaf lg_k start steps) ≡ None → step_refused f (get_or steps i d) (leaf_from f.key f.step_of (2 ^ lg_k) start (take i steps) (none_below start)) ≡ true →
      must_refuse {Z = Z} f seed (plan.Leaf lg_k start steps) ≡ true
  leaf_must lg_k start steps i d lt fit refused =
      sure _ _ (traced_leaf Z f seed lg_k start steps)
      (both (may_be_built lg_k start seed) _ (sym (fits_leaf Z seed lg_k start steps) ∙ accepted _ fit) (in_turn (λ begun step. step_refused f step (leaf_from f.key f.step_of (2 ^ lg_k) start begun (none_below start))) steps i d lt refused))

  pub leaf_may : (lg_k start : ℕ) (steps : List (LeafStep V)) (i : ℕ) (d : LeafStep V) → i < length steps → plan_refusal {V = V} {Z = Z} seed (plan.Leaf lg_k start steps) ≡ None → step_refused f (get_or steps i d) (leaf_from f.key f.step_of (2 ^ lg_k) start (take i steps) (none_below start)) ≡ true →
      may_refuse {Z = Z} f seed (plan.Leaf lg_k start steps) ≡ true
  leaf_may lg_k start steps i d lt fit refused = must_may Z f seed (plan.Leaf lg_k start steps) (leaf_must lg_k start steps i d lt fit refused)

  turns_must : (lg_k : ℕ) (parts : List (UnionPart (Plan V Z))) (i : ℕ) (d : UnionPart (Plan V Z)) (p : Plan V Z) → i < length parts → get_or parts i d ≡ union_part.Of p → may_be_lowered lg_k (lowers_of (take i parts)) ≡ true → list_all (λ fit. fit) (map (fits seed) (plans_of (take i parts))) ≡ true → must_refuse f seed p ≡ true →
      turns_refused lg_k (map (part_map (traced f seed)) parts) ≡ true
  turns_must lg_k [] i d p lt is lowers fit must = absurd (omega arith)
  turns_must lg_k (union_part.Of q ∷ parts) zero d p lt is lowers fit must = let same : q ≡ p = cc in or_left _ _ (ap (must_refuse f seed) same ∙ must)
  turns_must lg_k (union_part.Lower l ∷ parts) zero d p lt is lowers fit must = absurd cc
  turns_must lg_k (union_part.Of q ∷ parts) (suc i) d p lt is lowers fit must =
      or_right (must_refuse f seed q) _ (both (traced f seed q).fits _ (traced_fits Z f seed q ∙ and_left _ _ fit) (turns_must lg_k parts i d p (omega arith) is lowers (and_right (fits seed q) _ fit) must))
  turns_must lg_k (union_part.Lower l ∷ parts) (suc i) d p lt is lowers fit must =
      both (nat_le MIN_LG_K l && nat_le l lg_k) _ (and_left _ _ lowers) (turns_must l parts i d p (omega arith) is (and_right (nat_le MIN_LG_K l && nat_le l lg_k) _ lowers) fit must)

  pub union_part_must : (lg_k start : ℕ) (parts : List (UnionPart (Plan V Z))) (i : ℕ) (d : UnionPart (Plan V Z)) (p : Plan V Z) → i < length parts → get_or parts i d ≡ union_part.Of p → plan_refusal seed (plan.Union lg_k start (take i parts)) ≡ None → must_refuse f seed p ≡ true → must_refuse f seed (plan.Union lg_k start parts) ≡ true
  union_part_must lg_k start parts i d p lt is fit must =
      let all : (may_be_built lg_k start seed && (may_be_lowered lg_k (lowers_of (take i parts)) && list_all (λ fit. fit) (map (fits seed) (plans_of (take i parts))))) ≡ true = sym (fits_union Z seed lg_k start (take i parts)) ∙ accepted _ fit in
      let rest = and_right (may_be_built lg_k start seed) _ all in
      sure _ _ (traced_union Z f seed lg_k start parts)
      (both (may_be_built lg_k start seed) _ (and_left _ _ all) (turns_must lg_k parts i d p lt is (and_left _ _ rest) (and_right (may_be_lowered lg_k (lowers_of (take i parts))) _ rest) must))

  parts_must : (parts : List (Plan V Z)) (i : ℕ) (d : Plan V Z) → i < length parts → list_all (λ fit. fit) (map (fits seed) (take i parts)) ≡ true → must_refuse f seed (get_or parts i d) ≡ true → parts_refused (map (traced f seed) parts) ≡ true
  parts_must [] i d lt fit must = absurd (omega arith)
  parts_must (q ∷ parts) zero d lt fit must = or_left _ _ must
  parts_must (q ∷ parts) (suc i) d lt fit must =
      or_right (must_refuse f seed q) _ (both (traced f seed q).fits _ (traced_fits Z f seed q ∙ and_left _ _ fit) (parts_must parts i d (omega arith) (and_right (fits seed q) _ fit) must))

  pub meet_part_must : (parts : List (Plan V Z)) (i : ℕ) (d : Plan V Z) → i < length parts → plan_refusal seed (plan.Meet (take i parts)) ≡ None → must_refuse f seed (get_or parts i d) ≡ true → must_refuse f seed (plan.Meet parts) ≡ true
  meet_part_must parts i d lt fit must =
      let all : (may_have_seed seed && list_all (λ fit. fit) (map (fits seed) (take i parts))) ≡ true = sym (fits_meet Z seed (take i parts)) ∙ accepted _ fit in
      sure _ _ (traced_meet Z f seed parts) (both (may_have_seed seed) _ (and_left _ _ all) (parts_must parts i d lt (and_right (may_have_seed seed) _ all) must))

  pub minus_first_must : (first second : Plan V Z) → seed_refusal seed ≡ None → must_refuse f seed first ≡ true → must_refuse f seed (plan.Minus first second) ≡ true
  minus_first_must first second seeded must = sure _ _ (traced_minus Z f seed first second) (both (may_have_seed seed) _ (ap is_none seeded) (or_left _ _ must))

  pub minus_second_must : (first second : Plan V Z) → seed_refusal seed ≡ None → plan_refusal seed first ≡ None → must_refuse f seed second ≡ true → must_refuse f seed (plan.Minus first second) ≡ true
  minus_second_must first second seeded fit must =
      sure _ _ (traced_minus Z f seed first second) (both (may_have_seed seed) _ (ap is_none seeded) (or_right (must_refuse f seed first) _ (both _ (must_refuse f seed second) (traced_fits Z f seed first ∙ accepted _ fit) must)))

  pub via_must : (ordered : Bool) (part : Plan V Z) → must_refuse f seed part ≡ true → must_refuse f seed (plan.Via ordered part) ≡ true
  via_must ordered part must = sure _ _ (traced_via Z f seed ordered part) must
