-- Sketches, unions and values in folds: each call acts on folds as on entries.
use Rattle.std.proofs.Common.{◌≡◌, ℕ, ◌^◌, true, false, cond, eqb, min, List, [], ◌∷◌, map, length, Option, Some, None, is_none, refl, sym, ap, ◌∙◌}
use Rattle.std.specs.Prelude.{◌&&◌}
use Rattle.std.specs.Option.{option_map}
use Rattle.std.proofs.lemmas.List.{length-map}
use Rattle.core_laws.specs.declared.TheConstants.{MAX_THETA}
use Rattle.core_laws.specs.Cuts.{Retained, retained, cut}
use Rattle.core_laws.specs.Entries.{hash_key}
use Rattle.core_laws.specs.Folds.{Fold, Value, fold_key, folded, unmarked, unmarked_value}
use Rattle.core_laws.specs.Insertion.{upsert_refusal}
use Rattle.core_laws.specs.Maps.{below, entry_at, map_of, with_entry}
use Rattle.core_laws.specs.Operators.{lacking, minus, unless_nothing}
use Rattle.core_laws.specs.Shown.{Shown, shown_value}
use Rattle.core_laws.specs.Step.{Step}
use Rattle.core_laws.specs.Values.{Sketch, Empty, NonEmpty, cut_value, keys}
use Rattle.core_laws.proofs.insertions.FoldedSteps.{unmarked-step}
use Rattle.core_laws.proofs.maps.MappedEntries.{below-map, cut-map, entry_at-map, with_entry-map}
use Rattle.core_operators.specs.Union.{Union, union_value, lowered}
use Rattle.core_state.specs.Updatable.{Updatable, sketch_value}
use Rattle.core_table.specs.HashTable.{MapTable, after_insertion, trimmed_table}
use Rattle.core_streams.specs.Folds.{unmarked_table, unmarked_sketch, unmarked_union}

module _ {X : Type 0} (key : X → ℕ) where
  pub unmarked-cut : (k : ℕ) (v : Retained X) → cut (fold_key key) k (unmarked v).entries v.theta ≡ unmarked (cut key k v.entries v.theta)
  unmarked-cut k v = cut-map Value key (fold_key key) (λ x. refl) k v.entries v.theta

  pub unmarked-cut_value : (k : ℕ) (value : Sketch X) → cut_value (fold_key key) k (unmarked_value value) ≡ unmarked_value (cut_value key k value)
  unmarked-cut_value k Empty = refl
  unmarked-cut_value k (NonEmpty v) = ap NonEmpty (unmarked-cut k v)

  -- a table after an insertion that wasn't refused, and after a trim
  pub unmarked-insertion : (h : ℕ) (step : Step X) (old new : MapTable X) → upsert_refusal key h step old.kept ≡ None → new ≡ after_insertion key h step old →
      unmarked_table new ≡ after_insertion (fold_key key) h (folded key h step) (unmarked_table old)
  unmarked-insertion h step old new allowed after =
      (let again : Retained (Fold X) → MapTable (Fold X) = λ v. record (unmarked_table old) { kept = v } in
      ap unmarked_table after ∙ ap again (unmarked-step key (2 ^ old.lg_nom) h step old.kept allowed))

  pub unmarked-trimmed : (old new : MapTable X) → new ≡ trimmed_table key old → unmarked_table new ≡ trimmed_table (fold_key key) (unmarked_table old)
  unmarked-trimmed old new after =
      (let again : Retained (Fold X) → MapTable (Fold X) = λ v. record (unmarked_table old) { kept = v } in
      ap unmarked_table after ∙ ap again (sym (unmarked-cut (2 ^ old.lg_nom) old.kept)))

  -- the values of sketches and unions
  pub sketch-unmarked : (s : Updatable X) → sketch_value (unmarked_sketch s) ≡ unmarked_value (sketch_value s)
  sketch-unmarked s = elim s.empty as (λ b. cond b Empty (NonEmpty (unmarked s.map.kept)) ≡ unmarked_value (cond b Empty (NonEmpty s.map.kept))) [ true ↦ refl | false ↦ refl ]

  pub union-unmarked : {P : Type 0} (u : Union X P) → union_value (fold_key key) (unmarked_union u) ≡ unmarked_value (union_value key u)
  union-unmarked u =
      elim u.empty as (λ b. cond b Empty (NonEmpty (cut (fold_key key) (2 ^ u.lg_k) (unmarked u.content).entries u.content.theta)) ≡ unmarked_value (cond b Empty (NonEmpty (cut key (2 ^ u.lg_k) u.content.entries u.content.theta)))) [
        | true ↦ refl
        | false ↦ ap NonEmpty (unmarked-cut (2 ^ u.lg_k) u.content)
      ]

  -- a union lowered to fewer nominal entries
  pub unmarked-lowered : {P : Type 0} (lg_k : ℕ) (u : Union X P) → unmarked_union (lowered key lg_k u) ≡ lowered (fold_key key) lg_k (unmarked_union u)
  unmarked-lowered {P} lg_k u =
      (let again : Retained (Fold X) → Union (Fold X) P = λ v. record (unmarked_union u) { content = v; lg_k = lg_k } in
      elim (eqb lg_k u.lg_k) as (λ b. unmarked_union (cond b u (record u { content = cut key (2 ^ lg_k) u.content.entries u.content.theta; lg_k = lg_k })) ≡ cond b (unmarked_union u) (record (unmarked_union u) { content = cut (fold_key key) (2 ^ lg_k) (unmarked u.content).entries u.content.theta; lg_k = lg_k })) [
        | true ↦ refl
        | false ↦ ap again (sym (unmarked-cut (2 ^ lg_k) u.content))
      ])

-- a value is Empty just if it is in folds
pub unmarked-empty : {X : Type 0} (value : Sketch X) → unmarked_value value ≡ Empty → value ≡ Empty
unmarked-empty Empty e = refl
unmarked-empty (NonEmpty v) e = absurd (cc)

-- differences: whether a key is lacking depends on the keys of the other alone
module _ {X Y : Type 0} (key : X → ℕ) (other : Y → ℕ) where
  lacked : {Z : Type 0} (o : Option Z) (f : Z → ℕ) → is_none (option_map f o) ≡ is_none o
  lacked None f = refl
  lacked (Some z) f = refl

  lacked-fold : (o : Option Y) → is_none (option_map Value o) ≡ is_none o
  lacked-fold None = refl
  lacked-fold (Some y) = refl

  -- entries that lack folds are those that lack their keys
  lacking-keys : (xs : List X) (ys : List Y) → lacking (fold_key key) (fold_key other) (map Value xs) (map Value ys) ≡ map Value (lacking key hash_key xs (map other ys))
  lacking-keys [] ys = refl
  lacking-keys (x ∷ xs) ys =
      let same : is_none (entry_at (fold_key other) (map Value ys) (key x)) ≡ is_none (entry_at hash_key (map other ys) (key x)) =
      ap is_none (entry_at-map Value other (fold_key other) (λ y. refl) ys (key x)) ∙ lacked-fold (entry_at other ys (key x)) ∙ sym (lacked (entry_at other ys (key x)) other) ∙ sym (ap is_none (entry_at-map other other hash_key (λ y. refl) ys (key x))) in
      rw same (elim (is_none (entry_at hash_key (map other ys) (key x))) as (λ b. cond b (Value x ∷ lacking (fold_key key) (fold_key other) (map Value xs) (map Value ys)) (lacking (fold_key key) (fold_key other) (map Value xs) (map Value ys)) ≡ map Value (cond b (x ∷ lacking key hash_key xs (map other ys)) (lacking key hash_key xs (map other ys)))) [
        | true ↦ ap (λ (fs : List (Fold X)). Value x ∷ fs) (lacking-keys xs ys)
        | false ↦ lacking-keys xs ys
      ])

  unless-nothing : (v : Retained X) → unless_nothing (unmarked v) ≡ unmarked_value (unless_nothing v)
  unless-nothing v =
      rw (length-map v.entries Value)
      (elim (eqb (length v.entries) 0 && eqb v.theta MAX_THETA) as (λ b. cond b Empty (NonEmpty (unmarked v)) ≡ unmarked_value (cond b Empty (NonEmpty v))) [
        | true ↦ refl
        | false ↦ refl
      ])

  pub unmarked-minus : (a : Sketch X) (b : Sketch Y) → minus (fold_key key) (fold_key other) (unmarked_value a) (unmarked_value b) ≡ unmarked_value (minus key hash_key a (keys other b))
  unmarked-minus Empty b = refl
  unmarked-minus (NonEmpty u) Empty = refl
  unmarked-minus (NonEmpty u) (NonEmpty v) =
      let theta : ℕ = min u.theta v.theta in
      ap (λ (fs : List (Fold X)). unless_nothing (record { entries = fs; theta = theta })) (ap (λ (fs : List (Fold X)). below (fold_key key) fs theta) (lacking-keys u.entries v.entries) ∙ below-map Value key (fold_key key) (λ x. refl) (lacking key hash_key u.entries (map other v.entries)) theta)
      ∙ unless-nothing (retained key (lacking key hash_key u.entries (map other v.entries)) theta)

-- the keys of what a sketch shows
module _ {X : Type 0} (key : X → ℕ) where
  keys-listed : (xs : List X) → map key (map_of key xs) ≡ map_of hash_key (map key xs)
  keys-listed [] = refl
  keys-listed (x ∷ xs) = sym (with_entry-map key key hash_key (λ y. refl) (map_of key xs) x) ∙ ap (λ ys. with_entry hash_key ys (key x)) (keys-listed xs)

  pub keys-shown : (s : Shown) (listing : List X) → s.hashes ≡ map key listing → keys key (shown_value key s listing) ≡ shown_value hash_key s s.hashes
  keys-shown s listing same =
      elim s.empty as (λ b. keys key (cond b Empty (NonEmpty (record { entries = map_of key listing; theta = s.theta }))) ≡ cond b Empty (NonEmpty (record { entries = map_of hash_key s.hashes; theta = s.theta }))) [
        | true ↦ refl
        | false ↦ ap (λ (hs : List ℕ). NonEmpty (record { entries = hs; theta = s.theta })) (keys-listed listing ∙ ap (map_of hash_key) (sym same))
      ]
