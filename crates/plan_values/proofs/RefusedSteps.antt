-- When a leaf's step is refused among what the leaf retains: exactly if the insertion is, and then it leaves a mark in the whole map.
use Rattle.std.proofs.Common.{◌≡◌, ℕ, zero, suc, ◌<◌, ◌≤◌, ◌+◌, Bool, true, false, cond, ltb, List, [], ◌∷◌, ◌++◌, length, get_or, take, map, Option, Some, None, is_some, refl, sym, ap, ◌∙◌, arith}
use Rattle.std.specs.Prelude.{◌||◌, ◌&&◌, not}
use Rattle.std.specs.List.{filter}
use Rattle.std.specs.Option.{option_map, option_map_or}
use Rattle.std.proofs.lemmas.Bool.Decides.{nat_tests}
use Rattle.std.proofs.lemmas.List.{take_more}
use Rattle.sketch_base.specs.declared.error.ErrorKind.{ErrorKind}
use Rattle.core_laws.specs.Cuts.{Retained, none_below}
use Rattle.core_laws.specs.Entries.{is_carried}
use Rattle.core_laws.specs.Folds.{Fold, Value, Refused, fold_key, fold_writes, fold_makes, folded, is_mark, has_mark, unmarked}
use Rattle.core_laws.specs.Insertion.{is_screened, upsert_refusal, whole_upsert}
use Rattle.core_laws.specs.Lawful.{IsWithin}
use Rattle.core_laws.specs.Leaf.{leaf_from, whole, whole_from, whole_step}
use Rattle.core_laws.specs.Maps.{below, above, entry_at, with_entry}
use Rattle.core_laws.specs.Step.{Step as Upsert}
use Rattle.core_laws.specs.declared.TheConstants.{MAX_THETA}
use Rattle.core_laws.specs.declared.leaf.LeafStep.{LeafStep}
use Rattle.core_laws.specs.declared.leaf.LeafStep.TheVariants.{Add, Trim, Reset}
use Rattle.core_laws.proofs.cuts.WithinWholeMaps.{below-with_entry_low, found_key, lawful-le}
use Rattle.core_laws.proofs.insertions.Cases.{or_left, or_right, screened_case, existing_case, absent_case}
use Rattle.core_laws.proofs.insertions.Leaves.{within-leaf}
use Rattle.core_laws.proofs.maps.LookUps.{entry_at-below}
use Rattle.core_laws.proofs.maps.MappedEntries.{entry_at-map, with_entry-map}
use Rattle.plan_values.specs.Family.{Family, IsFamily, folds_of}
use Rattle.plan_values.specs.Refusals.{of_turn, step_refused}
use Rattle.plan_values.proofs.AcceptedSettings.{and_left, and_right}

-- values alone have no mark
pub no_mark : {X : Type 0} (xs : List X) → has_mark (map Value xs) ≡ false
no_mark [] = refl
no_mark (x ∷ xs) = no_mark xs

-- a mark among others
mark_among : {X : Type 0} (xs ys : List (Fold X)) (h : ℕ) → has_mark (xs ++ Refused h ∷ ys) ≡ true
mark_among [] ys h = refl
mark_among (x ∷ xs) ys h = or_right (is_mark x) _ (mark_among xs ys h)

module _ {X V : Type 0} (g : Family X V) (refuses : X → X → Bool) (h : ℕ) (x : V) (v : Retained X) where
  abbrev own : Upsert X
  own = g.step_of h x

  abbrev content : List (Fold X)
  content = map Value v.entries

  written : (w : X) (o : Option ErrorKind) → has_mark (with_entry (fold_key g.key) content (cond (is_some o) (Refused (g.key w)) (Value (own.writes w)))) ≡ is_some o
  written w None = ap has_mark (with_entry-map Value g.key (fold_key g.key) (λ y. refl) v.entries (own.writes w)) ∙ no_mark (with_entry g.key v.entries (own.writes w))
  written w (Some kind) = mark_among (below (fold_key g.key) content (g.key w)) (above (fold_key g.key) content (g.key w)) (g.key w)

  made : (m : Option X) (o : Option ErrorKind) → has_mark (option_map_or (λ y. with_entry (fold_key g.key) content y) (cond (is_some o) (Some (Refused h)) (option_map Value m)) content) ≡ is_some o
  made None None = no_mark v.entries
  made (Some y) None = ap has_mark (with_entry-map Value g.key (fold_key g.key) (λ z. refl) v.entries y) ∙ no_mark (with_entry g.key v.entries y)
  made m (Some kind) = mark_among (below (fold_key g.key) content h) (above (fold_key g.key) content h) h

  inserted : (o : Option X) → entry_at g.key v.entries h ≡ o →
      has_mark (whole_upsert (fold_key g.key) h (folded g.key h own) content) ≡ has_mark (option_map_or (λ y. with_entry (fold_key g.key) content (fold_writes g.key own y)) (option_map Value o) (option_map_or (λ y. with_entry (fold_key g.key) content y) (fold_makes h own) content))
  inserted o e =
      ap (λ o. has_mark (option_map_or (λ y. with_entry (fold_key g.key) content (fold_writes g.key own y)) o (option_map_or (λ y. with_entry (fold_key g.key) content y) (fold_makes h own) content))) (entry_at-map Value g.key (fold_key g.key) (λ y. refl) v.entries h ∙ ap (λ o. option_map Value o) e)

  -- an addition is refused among folds without marks exactly if its insertion is
  pub addition_is_refused : step_refused (folds_of g refuses) (Add h x) (unmarked v) ≡ is_some (upsert_refusal g.key h own v)
  addition_is_refused =
      (elim (is_screened h v.theta) as (λ b. is_screened h v.theta ≡ b → (not b && has_mark (whole_upsert (fold_key g.key) h (folded g.key h own) content)) ≡ is_some (upsert_refusal g.key h own v)) [
        | true ↦ λ s. ap is_some (sym (screened_case g.key 0 h own v s).refusal_is)
        | false ↦ λ s.
            (elim (entry_at g.key v.entries h) as (λ o. entry_at g.key v.entries h ≡ o → has_mark (whole_upsert (fold_key g.key) h (folded g.key h own) content) ≡ is_some (upsert_refusal g.key h own v)) [
              | Some w ↦ λ e. inserted (Some w) e ∙ written w (own.refuses_existing w) ∙ ap is_some (sym (existing_case g.key 0 h own v w s e).refusal_is)
              | None ↦ λ e. inserted None e ∙ made own.makes own.refuses_absent ∙ ap is_some (sym (absent_case g.key 0 h own v s e).refusal_is)
            ]) refl
      ]) refl

-- ---- steps in turn

pub neither : (a b : Bool) → a ≡ false → b ≡ false → (a || b) ≡ false
neither a b one two = rw (one, two) refl

pub not_left : (a b : Bool) → (a || b) ≡ false → a ≡ false
not_left true b off = off
not_left false b off = refl

pub not_right : (a b : Bool) → (a || b) ≡ false → b ≡ false
not_right true b off = absurd (cc)
not_right false b off = off

module _ {T : Type 0} where
  turn-append : (test : List T → T → Bool) (xs : List T) (y : T) → of_turn test xs ≡ false → test xs y ≡ false → of_turn test (xs ++ y ∷ []) ≡ false
  turn-append test [] y none present = neither _ _ present refl
  turn-append test (x ∷ xs) y none present = neither _ _ (not_left _ _ none) (turn-append (λ ys. test (x ∷ ys)) xs y (not_right (test [] x) _ none) present)

  pub turn_next : (test : List T → T → Bool) (xs : List T) (i : ℕ) (d : T) → i < length xs → of_turn test (take i xs) ≡ false → test (take i xs) (get_or xs i d) ≡ false → of_turn test (take (i + 1) xs) ≡ false
  turn_next test xs i d lt none present = ap (of_turn test) (take_more xs i d lt) ∙ turn-append test (take i xs) (get_or xs i d) none present

  -- a test of one in turn holds of some turn
  pub in_turn : (test : List T → T → Bool) (xs : List T) (i : ℕ) (d : T) → i < length xs → test (take i xs) (get_or xs i d) ≡ true → of_turn test xs ≡ true
  in_turn test [] i d lt holds = absurd (omega arith)
  in_turn test (x ∷ xs) zero d lt holds = or_left _ _ holds
  in_turn test (x ∷ xs) (suc i) d lt holds = or_right (test [] x) _ (in_turn (λ ys. test (x ∷ ys)) xs i d (omega arith) holds)

-- the whole map after one more step
pub whole-append : {X V : Type 0} (key : X → ℕ) (step_of : ℕ → V → Upsert X) (xs : List (LeafStep V)) (y : LeafStep V) (w : List X) → whole_from key step_of (xs ++ y ∷ []) w ≡ whole_step key step_of y (whole_from key step_of xs w)
whole-append key step_of [] y w = refl
whole-append key step_of (x ∷ xs) y w = whole-append key step_of xs y (whole_step key step_of x w)

-- a mark in a part of a map is in the map
mark_above : {X : Type 0} (p : Fold X → Bool) (xs : List (Fold X)) → has_mark (filter p xs) ≡ true → has_mark xs ≡ true
mark_above p [] holds = holds
mark_above p (x ∷ xs) holds =
    (elim (p x) as (λ b. has_mark (cond b (x ∷ filter p xs) (filter p xs)) ≡ true → (is_mark x || has_mark xs) ≡ true) [
      | true ↦ λ e. (elim (is_mark x) as (λ b. (b || has_mark (filter p xs)) ≡ true → (b || has_mark xs) ≡ true) [ true ↦ λ _. refl | false ↦ λ later. mark_above p xs later ]) e
      | false ↦ λ e. or_right (is_mark x) _ (mark_above p xs e)
    ]) holds

-- an insertion below a theta is one into what a map has below it
upsert_below : {X : Type 0} (key : X → ℕ) (h t : ℕ) (step : Upsert X) (w : List X) → h < t → ((x : X) → key x ≡ h → key (step.writes x) ≡ h) → ((x : X) → step.makes ≡ Some x → key x ≡ h) →
    whole_upsert key h step (below key w t) ≡ below key (whole_upsert key h step w) t
upsert_below key h t step w lt writes makes =
    let low : ltb h t ≡ true = grind (arith, nat_tests) in
    ap (λ o. option_map_or (λ x. with_entry key (below key w t) (step.writes x)) o (option_map_or (λ x. with_entry key (below key w t) x) step.makes (below key w t))) (entry_at-below key w t h ∙ ap (λ b. cond b (entry_at key w h) None) low)
    ∙ (elim (entry_at key w h) as (λ o. entry_at key w h ≡ o → option_map_or (λ x. with_entry key (below key w t) (step.writes x)) o (option_map_or (λ x. with_entry key (below key w t) x) step.makes (below key w t)) ≡ below key (option_map_or (λ x. with_entry key w (step.writes x)) o (option_map_or (λ x. with_entry key w x) step.makes w)) t) [
      | Some x ↦ λ e. sym (below-with_entry_low key w (step.writes x) t (omega (arith, writes x (found_key key w h x e), lt)))
      | None ↦ λ e.
          (elim step.makes as (λ m. step.makes ≡ m → option_map_or (λ x. with_entry key (below key w t) x) m (below key w t) ≡ below key (option_map_or (λ x. with_entry key w x) m w) t) [
            | Some x ↦ λ made. sym (below-with_entry_low key w x t (omega (arith, makes x made, lt)))
            | None ↦ λ made. refl
          ]) refl
    ]) refl

module _ {X V : Type 0} (f : Family (Fold X) V) (lawful : IsFamily f) where
  not_so : (b : Bool) → not b ≡ true → b ≡ false
  not_so true e = absurd (cc)
  not_so false e = refl

  -- a step that is refused among what is retained leaves a mark in the whole map
  refused_marks : (step : LeafStep V) (v : Retained (Fold X)) (w : List (Fold X)) → v.entries ≡ below f.key w v.theta → v.theta ≤ MAX_THETA → step_refused f step v ≡ true → has_mark (whole_step f.key f.step_of step w) ≡ true
  refused_marks (Add h x) v w all high refused =
      let unscreened : is_screened h v.theta ≡ false = not_so (is_screened h v.theta) (and_left _ _ refused) in
      let marked : has_mark (whole_upsert f.key h (f.step_of h x) v.entries) ≡ true = and_right (not (is_screened h v.theta)) _ refused in
      let lt : h < v.theta = grind (arith, nat_tests) in
      let carried : is_carried h ≡ true = grind (arith, nat_tests) in
      ap (λ b. has_mark (cond b (whole_upsert f.key h (f.step_of h x) w) w)) carried
      ∙ mark_above (λ y. ltb (f.key y) v.theta) (whole_upsert f.key h (f.step_of h x) w)
      (ap has_mark (sym (upsert_below f.key h v.theta (f.step_of h x) w lt (lawful.steps.writes h x) (lawful.steps.makes h x))) ∙ ap (λ es. has_mark (whole_upsert f.key h (f.step_of h x) es)) (sym all) ∙ marked)
  refused_marks Trim v w all high refused = absurd (cc)
  refused_marks Reset v w all high refused = absurd (cc)

  -- so the steps up to it leave one
  pub step_leaves_mark : (k start : ℕ) (steps : List (LeafStep V)) (i : ℕ) (d : LeafStep V) → start ≤ MAX_THETA → i < length steps → step_refused f (get_or steps i d) (leaf_from f.key f.step_of k start (take i steps) (none_below start)) ≡ true → has_mark (whole f.key f.step_of (take (i + 1) steps)) ≡ true
  step_leaves_mark k start steps i d high lt refused =
      let v = leaf_from f.key f.step_of k start (take i steps) (none_below start) in
      let w = whole f.key f.step_of (take i steps) in
      let within : IsWithin f.key k start v w = within-leaf f.key f.step_of lawful.steps k start (take i steps) high in
      let low : v.theta ≤ start = lawful-le f.key w k start v.theta within.lawful in
      ap (λ ss. has_mark (whole f.key f.step_of ss)) (take_more steps i d lt)
      ∙ ap has_mark (whole-append f.key f.step_of (take i steps) (get_or steps i d) [])
      ∙ refused_marks (get_or steps i d) v w within.entries_are (omega (arith, low, high)) refused
