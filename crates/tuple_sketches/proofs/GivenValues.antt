-- What a stream of values gives at each hash: its values there, folded in their order.
use Rattle.std.proofs.Common.{◌≡◌, ℕ, ◌<◌, Bool, true, false, cond, eqb, List, [], ◌∷◌, ◌++◌, map, Option, Some, None, refl, sym, ap, ◌∙◌, arith, append-nil}
use Rattle.std.specs.List.{AllByRecursion}
use Rattle.std.specs.Option.{option_map}
use Rattle.std.proofs.lemmas.List.{append_assoc}
use Rattle.std.proofs.lemmas.Bool.Decides.{nat_tests}
use Rattle.core_laws.specs.declared.TheConstants.{MAX_THETA}
use Rattle.core_laws.specs.Entries.{is_carried, hash_key}
use Rattle.core_laws.specs.Folds.{Fold, fold_key, folded_of}
use Rattle.core_laws.specs.Insertion.{whole_upsert}
use Rattle.core_laws.specs.Leaf.{KeepsHashes, whole_step, whole_from}
use Rattle.core_laws.specs.Maps.{IsAscending, entry_at}
use Rattle.core_laws.specs.Step.{Step}
use Rattle.core_laws.specs.declared.leaf.LeafStep.{LeafStep}
use Rattle.core_laws.specs.declared.leaf.LeafStep.TheVariants.{Add}
use Rattle.core_laws.proofs.insertions.FoldedSteps.{folded-keeps}
use Rattle.core_laws.proofs.insertions.Leaves.{leaf-sample}
use Rattle.core_laws.proofs.maps.LookUps.{same_map}
use Rattle.core_laws.proofs.maps.MappedEntries.{map-append, entry_at-map}
use Rattle.core_laws.proofs.maps.MapsOfLists.{ascending-map}
use Rattle.core_policies.specs.Summaries.{update_step, after_values, fold_at, fold_of, values_from}
use Rattle.core_policies.proofs.FoldedValues.{updates-keep, folded-values}
use Rattle.core_slots.specs.Entry.{tuple_key}
use Rattle.core_slots.specs.declared.entry.TupleEntry.{TupleEntry}
use Rattle.core_streams.specs.HashSets.{set_of}
use Rattle.core_streams.proofs.HashSets.{at-set_of, ascending-set_of}
use Rattle.core_streams.proofs.WholeMaps.{upsert-elsewhere}
use Rattle.tuple_sketches.specs.Given.{nothing, with_value, has_any, given_values, hashes_of}

-- the values of a hash in a stream, in their order
abbrev pub values_of : {U : Type 0} → ℕ → List (ℕ × U) → List U
values_of h [] = []
values_of h (p ∷ stream) = cond (eqb p.0 h) (p.1 ∷ values_of h stream) (values_of h stream)

pub values_of-append : {U : Type 0} (h : ℕ) (xs ys : List (ℕ × U)) → values_of h (xs ++ ys) ≡ values_of h xs ++ values_of h ys
values_of-append h [] ys = refl
values_of-append {U} h (p ∷ xs) ys =
    elim (eqb p.0 h) as (λ b. cond b (p.1 ∷ values_of h (xs ++ ys)) (values_of h (xs ++ ys)) ≡ cond b (p.1 ∷ values_of h xs) (values_of h xs) ++ values_of h ys) [
      | true ↦ ap (λ (us : List U). p.1 ∷ us) (values_of-append h xs ys)
      | false ↦ values_of-append h xs ys
    ]

module _ {S U : Type 0} (creates : Option S) (updates : S → U → Option S) where
  abbrev steps_of : List (ℕ × U) → List (LeafStep U)
  steps_of stream = map (λ p. Add p.0 p.1) stream

  abbrev step_at : ℕ → U → Step (Fold (TupleEntry S))
  step_at = folded_of tuple_key (update_step creates updates)

  pub steps-keep : KeepsHashes (fold_key tuple_key) step_at
  steps-keep = folded-keeps tuple_key (update_step creates updates) (updates-keep creates updates)

  from-values : (h : ℕ) (stream : List (ℕ × U)) (us : List U) → values_from h (steps_of stream) us ≡ us ++ values_of h stream
  from-values h [] us = sym (append-nil us)
  from-values h (p ∷ stream) us =
      elim (eqb p.0 h) as (λ b. values_from h (steps_of stream) (cond b (us ++ p.1 ∷ []) us) ≡ us ++ cond b (p.1 ∷ values_of h stream) (values_of h stream)) [
        | true ↦ from-values h stream (us ++ p.1 ∷ []) ∙ append_assoc us (p.1 ∷ []) (values_of h stream)
        | false ↦ from-values h stream us
      ]

  -- one value more
  whole-append : (xs ys : List (LeafStep U)) (w : List (Fold (TupleEntry S))) → whole_from (fold_key tuple_key) step_at (xs ++ ys) w ≡ whole_from (fold_key tuple_key) step_at ys (whole_from (fold_key tuple_key) step_at xs w)
  whole-append [] ys w = refl
  whole-append (x ∷ xs) ys w = whole-append xs ys (whole_step (fold_key tuple_key) step_at x w)

  pub no_values : given_values creates updates [] ≡ nothing
  unfolding given_values
  no_values = refl

  any-more : (stream : List (ℕ × U)) (p : ℕ × U) → has_any (stream ++ p ∷ []) ≡ true
  any-more [] p = refl
  any-more (q ∷ stream) p = refl

  pub one_more : (stream : List (ℕ × U)) (p : ℕ × U) → given_values creates updates (stream ++ p ∷ []) ≡ with_value creates updates p.0 p.1 (given_values creates updates stream)
  unfolding given_values
  one_more stream p =
      let whole : whole_from (fold_key tuple_key) step_at (steps_of (stream ++ p ∷ [])) [] ≡ whole_step (fold_key tuple_key) step_at (Add p.0 p.1) (whole_from (fold_key tuple_key) step_at (steps_of stream) []) =
      ap (λ (ss : List (LeafStep U)). whole_from (fold_key tuple_key) step_at ss []) (map-append (λ (q : ℕ × U). Add q.0 q.1) stream (p ∷ [])) ∙ whole-append (steps_of stream) (Add p.0 p.1 ∷ []) [] in
      let any : has_any (stream ++ p ∷ []) ≡ true = any-more stream p in
      λ i. record { whole = whole i; any = any i }

  pub ascending-values : (stream : List (ℕ × U)) → IsAscending (fold_key tuple_key) (given_values creates updates stream).whole
  unfolding given_values
  ascending-values stream = (leaf-sample (fold_key tuple_key) step_at steps-keep 0 0 (steps_of stream) (omega arith)).ascending

  pub carried-values : (stream : List (ℕ × U)) → AllByRecursion (λ f. fold_key tuple_key f < MAX_THETA) (given_values creates updates stream).whole
  unfolding given_values
  carried-values stream = (leaf-sample (fold_key tuple_key) step_at steps-keep 0 0 (steps_of stream) (omega arith)).carried

  uncarried : (h : ℕ) → is_carried h ≡ false → (stream : List (ℕ × U)) (w : List (Fold (TupleEntry S))) → entry_at (fold_key tuple_key) w h ≡ None → entry_at (fold_key tuple_key) (whole_from (fold_key tuple_key) step_at (steps_of stream) w) h ≡ None
  uncarried h un [] w none = none
  uncarried h un (p ∷ stream) w none =
      uncarried h un stream (whole_step (fold_key tuple_key) step_at (Add p.0 p.1) w)
      ((elim (is_carried p.0) as (λ b. is_carried p.0 ≡ b → entry_at (fold_key tuple_key) (cond b (whole_upsert (fold_key tuple_key) p.0 (step_at p.0 p.1) w) w) h ≡ None) [
        | true ↦ λ e. let other : eqb p.0 h ≡ false = grind (arith, nat_tests) in upsert-elsewhere (fold_key tuple_key) step_at steps-keep p.0 h p.1 w other ∙ none
        | false ↦ λ e. none
      ]) refl)

  pub at-values : (stream : List (ℕ × U)) (h : ℕ) → entry_at (fold_key tuple_key) (given_values creates updates stream).whole h ≡ cond (is_carried h) (fold_at creates updates h (values_of h stream)) None
  unfolding given_values
  at-values stream h =
      (elim (is_carried h) as (λ b. is_carried h ≡ b → entry_at (fold_key tuple_key) (whole_from (fold_key tuple_key) step_at (steps_of stream) []) h ≡ cond b (fold_at creates updates h (values_of h stream)) None) [
        | true ↦ λ e. folded-values creates updates (steps_of stream) h [] [] e refl ∙ ap (fold_at creates updates h) (from-values h stream [])
        | false ↦ λ e. uncarried h e stream [] refl
      ]) refl

  -- the keys of what a stream gives are the set of its hashes
  key_of-fold : (h : ℕ) (o : Option S) → fold_key tuple_key (fold_of h o) ≡ h
  key_of-fold h (Some s) = refl
  key_of-fold h None = refl

  key-found : (h : ℕ) (stream : List (ℕ × U)) → option_map (fold_key tuple_key) (fold_at creates updates h (values_of h stream)) ≡ entry_at hash_key (hashes_of stream) h
  key-found h [] = refl
  key-found h (p ∷ stream) =
      (elim (eqb p.0 h) as (λ b. eqb p.0 h ≡ b → option_map (fold_key tuple_key) (fold_at creates updates h (cond b (p.1 ∷ values_of h stream) (values_of h stream))) ≡ cond b (Some p.0) (entry_at hash_key (hashes_of stream) h)) [
        | true ↦ λ e. let same : h ≡ p.0 = grind (arith, nat_tests) in ap Some (key_of-fold h (after_values updates creates (p.1 ∷ values_of h stream)) ∙ same)
        | false ↦ λ e. key-found h stream
      ]) refl

  key-cond : (b : Bool) (o : Option (Fold (TupleEntry S))) → option_map (fold_key tuple_key) (cond b o None) ≡ cond b (option_map (fold_key tuple_key) o) None
  key-cond true o = refl
  key-cond false o = refl

  pub keys-values : (stream : List (ℕ × U)) → map (fold_key tuple_key) (given_values creates updates stream).whole ≡ set_of (hashes_of stream)
  keys-values stream =
      let folds : List (Fold (TupleEntry S)) = (given_values creates updates stream).whole in
      same_map hash_key _ _ (ascending-map (fold_key tuple_key) folds (ascending-values stream)) (ascending-set_of (hashes_of stream))
      (λ q.
      entry_at-map (fold_key tuple_key) (fold_key tuple_key) hash_key (λ f. refl) folds q
      ∙ ap (option_map (fold_key tuple_key)) (at-values stream q)
      ∙ key-cond (is_carried q) (fold_at creates updates q (values_of q stream))
      ∙ ap (λ o. cond (is_carried q) o None) (key-found q stream)
      ∙ sym (at-set_of (hashes_of stream) q))
