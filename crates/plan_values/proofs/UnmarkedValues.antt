-- If nothing is refused, operators on values without marks are those on the values.
use Rattle.std.proofs.Common.{◌≡◌, ℕ, true, false, cond, eqb, not, List, [], ◌∷◌, map, length, min, Option, Some, None, is_some, refl, sym, ap, ◌∙◌}
use Rattle.std.specs.Prelude.{◌&&◌, is_none}
use Rattle.std.specs.Option.{option_map, option_map_or}
use Rattle.std.proofs.lemmas.List.{length-map}
use Rattle.sketch_base.specs.declared.error.ErrorKind.{ErrorKind}
use Rattle.core_laws.specs.declared.TheConstants.{MAX_THETA}
use Rattle.core_laws.specs.Cuts.{Retained, cut, retained, none_below}
use Rattle.core_laws.specs.Maps.{entry_at, with_entry}
use Rattle.core_laws.specs.Folds.{Fold, Value, Refused, fold_key, fold_merges, unmarked, unmarked_value, never, folded_of, fold_writes, fold_makes}
use Rattle.core_laws.specs.Entries.{is_carried}
use Rattle.core_laws.specs.Insertion.{whole_upsert}
use Rattle.core_laws.specs.Samples.{common_all}
use Rattle.core_laws.specs.Leaf.{leaf, leaf_from, leaf_step, is_updated, whole, whole_from, whole_step}
use Rattle.core_laws.specs.Operators.{join, joined, joined_all, least, nonempties, unite, unite_nonempty, common, shared, is_disjoint, meet, meet_from, lacking, unless_nothing, minus}
use Rattle.core_laws.specs.Step.{Step}
use Rattle.core_laws.specs.Values.{Sketch, Empty, NonEmpty}
use Rattle.core_laws.specs.declared.leaf.LeafStep.{LeafStep}
use Rattle.core_laws.specs.declared.leaf.LeafStep.TheVariants.{Add, Trim, Reset}
use Rattle.core_laws.proofs.insertions.Cases.{never_refused}
use Rattle.core_laws.proofs.insertions.FoldedSteps.{unmarked-step}
use Rattle.core_laws.proofs.maps.MappedEntries.{below-map, entry_at-map, with_entry-map, cut-map}

module _ {X : Type 0} where
  abbrev entries_in : List (Fold X) → List X
  entries_in [] = []
  entries_in (Value x ∷ folds) = x ∷ entries_in folds
  entries_in (Refused h ∷ folds) = entries_in folds

  abbrev value_without : Sketch (Fold X) → Sketch X
  value_without Empty = Empty
  value_without (NonEmpty v) = NonEmpty (record { entries = entries_in v.entries; theta = v.theta })

  same_entries : (xs : List X) → entries_in (map Value xs) ≡ xs
  same_entries [] = refl
  same_entries (x ∷ xs) = ap (λ ys. x ∷ ys) (same_entries xs)

  same_value : (v : Sketch X) → value_without (unmarked_value v) ≡ v
  same_value Empty = refl
  same_value (NonEmpty v) = ap (λ xs. NonEmpty (record { entries = xs; theta = v.theta })) (same_entries v.entries)

  -- different values are different without marks
  pub unmarked_distinct : (v w : Sketch X) → unmarked_value v ≡ unmarked_value w → v ≡ w
  unmarked_distinct v w same = sym (same_value v) ∙ ap value_without same ∙ same_value w

module _ {X : Type 0} (key : X → ℕ) where
  -- ---- differences

  none_there : (o : Option X) → is_none (option_map Value o) ≡ is_none o
  none_there None = refl
  none_there (Some x) = refl

  pub lacking_unmarked : (xs ys : List X) → lacking (fold_key key) (fold_key key) (map Value xs) (map Value ys) ≡ map Value (lacking key key xs ys)
  lacking_unmarked [] ys = refl
  lacking_unmarked (x ∷ xs) ys =
      let same : is_none (entry_at (fold_key key) (map Value ys) (key x)) ≡ is_none (entry_at key ys (key x)) = ap is_none (entry_at-map Value key (fold_key key) (λ y. refl) ys (key x)) ∙ none_there (entry_at key ys (key x)) in
      ap (λ b. cond b (Value x ∷ lacking (fold_key key) (fold_key key) (map Value xs) (map Value ys)) (lacking (fold_key key) (fold_key key) (map Value xs) (map Value ys))) same
      ∙ elim (is_none (entry_at key ys (key x))) as (λ b. cond b (Value x ∷ lacking (fold_key key) (fold_key key) (map Value xs) (map Value ys)) (lacking (fold_key key) (fold_key key) (map Value xs) (map Value ys)) ≡ map Value (cond b (x ∷ lacking key key xs ys) (lacking key key xs ys))) [
        | true ↦ ap (λ zs. Value x ∷ zs) (lacking_unmarked xs ys)
        | false ↦ lacking_unmarked xs ys
      ]

  unless_nothing_unmarked : (v : Retained X) → unless_nothing (unmarked v) ≡ unmarked_value (unless_nothing v)
  unless_nothing_unmarked v =
      ap (λ (n : ℕ). cond (eqb n 0 && eqb v.theta MAX_THETA) Empty (NonEmpty (unmarked v))) (length-map v.entries Value)
      ∙ elim (eqb (length v.entries) 0 && eqb v.theta MAX_THETA) as (λ b. cond b Empty (NonEmpty (unmarked v)) ≡ unmarked_value (cond b Empty (NonEmpty v))) [ true ↦ refl | false ↦ refl ]

  retained_unmarked : (xs : List X) (t : ℕ) → retained (fold_key key) (map Value xs) t ≡ unmarked (retained key xs t)
  retained_unmarked xs t = ap (λ ys. record { entries = ys; theta = t }) (below-map Value key (fold_key key) (λ y. refl) xs t)

  pub minus_unmarked : (a b : Sketch X) → minus (fold_key key) (fold_key key) (unmarked_value a) (unmarked_value b) ≡ unmarked_value (minus key key a b)
  minus_unmarked Empty b = refl
  minus_unmarked (NonEmpty a) Empty = refl
  minus_unmarked (NonEmpty a) (NonEmpty b) =
      ap (λ xs. unless_nothing (retained (fold_key key) xs (min a.theta b.theta))) (lacking_unmarked a.entries b.entries)
      ∙ ap unless_nothing (retained_unmarked (lacking key key a.entries b.entries) (min a.theta b.theta))
      ∙ unless_nothing_unmarked (retained key (lacking key key a.entries b.entries) (min a.theta b.theta))

  -- ---- leaves

  module _ {V : Type 0} (step_of : ℕ → V → Step X) (existing : (h : ℕ) (u : V) (x : X) → (step_of h u).refuses_existing x ≡ None) (absent : (h : ℕ) (u : V) → (step_of h u).refuses_absent ≡ None) where
    step_unmarked : (k start : ℕ) (step : LeafStep V) (v : Retained X) → leaf_step (fold_key key) (folded_of key step_of) k start step (unmarked v) ≡ unmarked (leaf_step key step_of k start step v)
    step_unmarked k start (Add h u) v = sym (unmarked-step key k h (step_of h u) v (never_refused key k h (step_of h u) v (existing h u) (absent h u)))
    step_unmarked k start Trim v = cut-map Value key (fold_key key) (λ y. refl) k v.entries v.theta
    step_unmarked k start Reset v = refl

    pub steps_unmarked : (k start : ℕ) (steps : List (LeafStep V)) (v : Retained X) → leaf_from (fold_key key) (folded_of key step_of) k start steps (unmarked v) ≡ unmarked (leaf_from key step_of k start steps v)
    steps_unmarked k start [] v = refl
    steps_unmarked k start (step ∷ steps) v =
        ap (leaf_from (fold_key key) (folded_of key step_of) k start steps) (step_unmarked k start step v) ∙ steps_unmarked k start steps (leaf_step key step_of k start step v)

    pub leaf_unmarked : (k start : ℕ) (steps : List (LeafStep V)) → leaf (fold_key key) (folded_of key step_of) k start steps ≡ unmarked_value (leaf key step_of k start steps)
    leaf_unmarked k start steps =
        elim (is_updated steps false) as (λ b. cond b (NonEmpty (leaf_from (fold_key key) (folded_of key step_of) k start steps (none_below start))) Empty ≡ unmarked_value (cond b (NonEmpty (leaf_from key step_of k start steps (none_below start))) Empty)) [
          | true ↦ ap NonEmpty (steps_unmarked k start steps (none_below start))
          | false ↦ refl
        ]

    -- ---- whole maps of leaves

    written_unmarked : (h : ℕ) (u : V) (whole : List X) (w : X) → with_entry (fold_key key) (map Value whole) (fold_writes key (step_of h u) (Value w)) ≡ map Value (with_entry key whole ((step_of h u).writes w))
    written_unmarked h u whole w =
        ap (λ (o : Option ErrorKind). with_entry (fold_key key) (map Value whole) (cond (is_some o) (Refused (key w)) (Value ((step_of h u).writes w)))) (existing h u w)
        ∙ with_entry-map Value key (fold_key key) (λ y. refl) whole ((step_of h u).writes w)

    made_unmarked : (whole : List X) (o : Option X) → option_map_or (λ x. with_entry (fold_key key) (map Value whole) x) (option_map Value o) (map Value whole) ≡ map Value (option_map_or (λ x. with_entry key whole x) o whole)
    made_unmarked whole None = refl
    made_unmarked whole (Some x) = with_entry-map Value key (fold_key key) (λ y. refl) whole x

    upsert_unmarked : (h : ℕ) (u : V) (whole : List X) → whole_upsert (fold_key key) h (folded_of key step_of h u) (map Value whole) ≡ map Value (whole_upsert key h (step_of h u) whole)
    upsert_unmarked h u whole =
        ap (λ o. option_map_or (λ x. with_entry (fold_key key) (map Value whole) (fold_writes key (step_of h u) x)) o (option_map_or (λ x. with_entry (fold_key key) (map Value whole) x) (fold_makes h (step_of h u)) (map Value whole))) (entry_at-map Value key (fold_key key) (λ y. refl) whole h)
        ∙ elim (entry_at key whole h) as (λ o. option_map_or (λ x. with_entry (fold_key key) (map Value whole) (fold_writes key (step_of h u) x)) (option_map Value o) (option_map_or (λ x. with_entry (fold_key key) (map Value whole) x) (fold_makes h (step_of h u)) (map Value whole)) ≡ map Value (option_map_or (λ w. with_entry key whole ((step_of h u).writes w)) o (option_map_or (λ x. with_entry key whole x) (step_of h u).makes whole))) [
          | Some w ↦ written_unmarked h u whole w
          | None ↦
              ap (λ (o : Option ErrorKind). option_map_or (λ x. with_entry (fold_key key) (map Value whole) x) (cond (is_some o) (Some (Refused h)) (option_map Value (step_of h u).makes)) (map Value whole)) (absent h u)
              ∙ made_unmarked whole (step_of h u).makes
        ]

    whole_step_unmarked : (step : LeafStep V) (whole : List X) → whole_step (fold_key key) (folded_of key step_of) step (map Value whole) ≡ map Value (whole_step key step_of step whole)
    whole_step_unmarked (Add h u) whole =
        elim (is_carried h) as (λ b. cond b (whole_upsert (fold_key key) h (folded_of key step_of h u) (map Value whole)) (map Value whole) ≡ map Value (cond b (whole_upsert key h (step_of h u) whole) whole)) [
          | true ↦ upsert_unmarked h u whole
          | false ↦ refl
        ]
    whole_step_unmarked Trim whole = refl
    whole_step_unmarked Reset whole = refl

    whole_from_unmarked : (steps : List (LeafStep V)) (whole : List X) → whole_from (fold_key key) (folded_of key step_of) steps (map Value whole) ≡ map Value (whole_from key step_of steps whole)
    whole_from_unmarked [] whole = refl
    whole_from_unmarked (step ∷ steps) whole = ap (whole_from (fold_key key) (folded_of key step_of) steps) (whole_step_unmarked step whole) ∙ whole_from_unmarked steps (whole_step key step_of step whole)

    pub whole_unmarked : (steps : List (LeafStep V)) → whole (fold_key key) (folded_of key step_of) steps ≡ map Value (whole key step_of steps)
    whole_unmarked steps = whole_from_unmarked steps []

module _ {X : Type 0} (key : X → ℕ) (merges : X → X → X) where
  abbrev merged : Fold X → Fold X → Fold X
  merged = fold_merges key merges never

  -- ---- unions

  join_unmarked : (whole : List X) (x : X) → join (fold_key key) merged (map Value whole) (Value x) ≡ map Value (join key merges whole x)
  join_unmarked whole x =
      ap (λ o. with_entry (fold_key key) (map Value whole) (option_map_or (λ w. merged w (Value x)) o (Value x))) (entry_at-map Value key (fold_key key) (λ y. refl) whole (key x))
      ∙ elim (entry_at key whole (key x)) as (λ o. with_entry (fold_key key) (map Value whole) (option_map_or (λ w. merged w (Value x)) (option_map Value o) (Value x)) ≡ map Value (with_entry key whole (option_map_or (λ w. merges w x) o x))) [
        | Some w ↦ with_entry-map Value key (fold_key key) (λ y. refl) whole (merges w x)
        | None ↦ with_entry-map Value key (fold_key key) (λ y. refl) whole x
      ]

  pub joined_unmarked : (whole xs : List X) → joined (fold_key key) merged (map Value whole) (map Value xs) ≡ map Value (joined key merges whole xs)
  joined_unmarked whole [] = refl
  joined_unmarked whole (x ∷ xs) = ap (λ ys. joined (fold_key key) merged ys (map Value xs)) (join_unmarked whole x) ∙ joined_unmarked (join key merges whole x) xs

  pub joined_all_unmarked : (whole : List X) (maps : List (List X)) → joined_all (fold_key key) merged (map Value whole) (map (map Value) maps) ≡ map Value (joined_all key merges whole maps)
  joined_all_unmarked whole [] = refl
  joined_all_unmarked whole (xs ∷ maps) = ap (λ ys. joined_all (fold_key key) merged ys (map (map Value) maps)) (joined_unmarked whole xs) ∙ joined_all_unmarked (joined key merges whole xs) maps

  nonempties_unmarked : (values : List (Sketch X)) → nonempties (map unmarked_value values) ≡ map unmarked (nonempties values)
  nonempties_unmarked [] = refl
  nonempties_unmarked (Empty ∷ values) = nonempties_unmarked values
  nonempties_unmarked (NonEmpty v ∷ values) = ap (λ vs. unmarked v ∷ vs) (nonempties_unmarked values)

  entries_unmarked : (vs : List (Retained X)) → map (λ (u : Retained (Fold X)). u.entries) (map unmarked vs) ≡ map (map Value) (map (λ (u : Retained X). u.entries) vs)
  entries_unmarked [] = refl
  entries_unmarked (v ∷ vs) = ap (λ (ess : List (List (Fold X))). map Value v.entries ∷ ess) (entries_unmarked vs)

  thetas_unmarked : (vs : List (Retained X)) → map (λ (u : Retained (Fold X)). u.theta) (map unmarked vs) ≡ map (λ (u : Retained X). u.theta) vs
  thetas_unmarked [] = refl
  thetas_unmarked (v ∷ vs) = ap (λ (ts : List ℕ). v.theta ∷ ts) (thetas_unmarked vs)

  unite_nonempty_unmarked : (k start : ℕ) (vs : List (Retained X)) → unite_nonempty (fold_key key) merged k start (map unmarked vs) ≡ unmarked_value (unite_nonempty key merges k start vs)
  unite_nonempty_unmarked k start [] = refl
  unite_nonempty_unmarked k start (v ∷ vs) =
      ap (λ (ess : List (List (Fold X))). NonEmpty (cut (fold_key key) k (joined_all (fold_key key) merged [] ess) (least start (map (λ (u : Retained (Fold X)). u.theta) (map unmarked (v ∷ vs)))))) (entries_unmarked (v ∷ vs))
      ∙ ap (λ (ts : List ℕ). NonEmpty (cut (fold_key key) k (joined_all (fold_key key) merged [] (map (map Value) (map (λ (u : Retained X). u.entries) (v ∷ vs)))) (least start ts))) (thetas_unmarked (v ∷ vs))
      ∙ ap (λ (es : List (Fold X)). NonEmpty (cut (fold_key key) k es (least start (map (λ (u : Retained X). u.theta) (v ∷ vs))))) (joined_all_unmarked [] (map (λ (u : Retained X). u.entries) (v ∷ vs)))
      ∙ ap NonEmpty (cut-map Value key (fold_key key) (λ y. refl) k (joined_all key merges [] (map (λ (u : Retained X). u.entries) (v ∷ vs))) (least start (map (λ (u : Retained X). u.theta) (v ∷ vs))))

  pub unite_unmarked : (k start : ℕ) (values : List (Sketch X)) → unite (fold_key key) merged k start (map unmarked_value values) ≡ unmarked_value (unite key merges k start values)
  unite_unmarked k start values = ap (unite_nonempty (fold_key key) merged k start) (nonempties_unmarked values) ∙ unite_nonempty_unmarked k start (nonempties values)

  -- ---- intersections

  pub common_unmarked : (xs ys : List X) → common (fold_key key) merged (map Value xs) (map Value ys) ≡ map Value (common key merges xs ys)
  common_unmarked [] ys = refl
  common_unmarked (x ∷ xs) ys =
      (elim (entry_at key ys (key x)) as (λ o. entry_at key ys (key x) ≡ o → common (fold_key key) merged (map Value (x ∷ xs)) (map Value ys) ≡ map Value (common key merges (x ∷ xs) ys)) [
        | Some y ↦ λ at.
            let there : entry_at (fold_key key) (map Value ys) (key x) ≡ Some (Value y) = entry_at-map Value key (fold_key key) (λ z. refl) ys (key x) ∙ ap (option_map Value) at in
            rw (at, there) (ap (λ (zs : List (Fold X)). Value (merges x y) ∷ zs) (common_unmarked xs ys))
        | None ↦ λ at.
            let none : entry_at (fold_key key) (map Value ys) (key x) ≡ None = entry_at-map Value key (fold_key key) (λ z. refl) ys (key x) ∙ ap (option_map Value) at in
            rw (at, none) (common_unmarked xs ys)
      ]) refl

  pub common_all_unmarked : (whole : List X) (maps : List (List X)) → common_all (fold_key key) merged (map Value whole) (map (map Value) maps) ≡ map Value (common_all key merges whole maps)
  common_all_unmarked whole [] = refl
  common_all_unmarked whole (xs ∷ maps) = ap (λ ys. common_all (fold_key key) merged ys (map (map Value) maps)) (common_unmarked whole xs) ∙ common_all_unmarked (common key merges whole xs) maps

  shared_unmarked : (u v : Retained X) → shared (fold_key key) merged (unmarked u) (unmarked v) ≡ unmarked (shared key merges u v)
  shared_unmarked u v = ap (λ es. retained (fold_key key) es (min u.theta v.theta)) (common_unmarked u.entries v.entries) ∙ retained_unmarked key (common key merges u.entries v.entries) (min u.theta v.theta)

  disjoint_unmarked : (u v : Retained X) → is_disjoint (fold_key key) merged (unmarked u) (unmarked v) ≡ is_disjoint key merges u v
  disjoint_unmarked u v =
      let most = eqb (min u.theta v.theta) MAX_THETA in
      ap (λ (w : Retained (Fold X)). most && (not (eqb (length (map Value u.entries)) 0) && (not (eqb (length (map Value v.entries)) 0) && eqb (length w.entries) 0))) (shared_unmarked u v)
      ∙ ap (λ (n : ℕ). most && (not (eqb n 0) && (not (eqb (length (map Value v.entries)) 0) && eqb (length (map Value (shared key merges u v).entries)) 0))) (length-map u.entries Value)
      ∙ ap (λ (n : ℕ). most && (not (eqb (length u.entries) 0) && (not (eqb n 0) && eqb (length (map Value (shared key merges u v).entries)) 0))) (length-map v.entries Value)
      ∙ ap (λ (n : ℕ). most && (not (eqb (length u.entries) 0) && (not (eqb (length v.entries) 0) && eqb n 0))) (length-map (shared key merges u v).entries Value)

  meet_from_unmarked : (u : Retained X) (values : List (Sketch X)) → meet_from (fold_key key) merged (unmarked u) (map unmarked_value values) ≡ unmarked_value (meet_from key merges u values)
  meet_from_unmarked u [] = refl
  meet_from_unmarked u (Empty ∷ values) = refl
  meet_from_unmarked u (NonEmpty v ∷ values) =
      ap (λ b. cond b Empty (meet_from (fold_key key) merged (shared (fold_key key) merged (unmarked u) (unmarked v)) (map unmarked_value values))) (disjoint_unmarked u v)
      ∙ ap (λ w. cond (is_disjoint key merges u v) Empty (meet_from (fold_key key) merged w (map unmarked_value values))) (shared_unmarked u v)
      ∙ elim (is_disjoint key merges u v) as (λ b. cond b Empty (meet_from (fold_key key) merged (unmarked (shared key merges u v)) (map unmarked_value values)) ≡ unmarked_value (cond b Empty (meet_from key merges (shared key merges u v) values))) [
        | true ↦ refl
        | false ↦ meet_from_unmarked (shared key merges u v) values
      ]

  pub meet_unmarked : (values : List (Sketch X)) → meet (fold_key key) merged (map unmarked_value values) ≡ unmarked_value (meet key merges values)
  meet_unmarked [] = refl
  meet_unmarked (Empty ∷ values) = refl
  meet_unmarked (NonEmpty v ∷ values) = meet_from_unmarked v values
