-- The sketch of a merge: its keys and theta, and its sums.
use Rattle.std.proofs.Common.{◌≡◌, ℕ, true, List, [], ◌∷◌, Result, Ok, Err, Option, Some, None, map, refl, sym, ap, subst, ◌∙◌}
use Rattle.std.specs.Prelude.{ℤ, pos, IfOk, OnOk}
use Rattle.std.specs.Option.{option_map}
use Rattle.sketch_base.specs.declared.error.ErrorKind.{ErrorKind}
use Rattle.core_laws.specs.Cuts.{Retained, cut}
use Rattle.core_laws.specs.Entries.{hash_key}
use Rattle.core_laws.specs.Folds.{Fold, Value, fold_key, unmarked, unmarked_value}
use Rattle.core_laws.specs.Leaf.{kmin}
use Rattle.core_laws.specs.Maps.{entry_at}
use Rattle.core_laws.specs.Values.{Sketch, Empty, NonEmpty}
use Rattle.core_laws.proofs.maps.MappedEntries.{cut-map}
use Rattle.core_policies.specs.Sums.{sum_within}
use Rattle.core_compact.specs.CompactState.{Compact as State, compact_value, ordered_sketch}
use Rattle.core_slots.specs.Entry.{tuple_key}
use Rattle.core_slots.specs.declared.entry.TupleEntry.{TupleEntry}
use Rattle.plan_text.specs.declared.plan.Plan.{Plan}
use Rattle.plan_values.specs.AddedValues.{added_values, total}
use Rattle.plan_values.specs.Family.{tuple_folds}
use Rattle.plan_values.specs.MergePlan.{only_unites}
use Rattle.plan_values.specs.Value.{value_in, plan_refusal}
use Rattle.plan_values.proofs.MergedSums.{retained_sums}
use Rattle.plan_evaluation.specs.Answered.{HasKeys, IsOrderedSketchOf}

module _ {X : Type 0} (key : X → ℕ) (k start : ℕ) (whole : List (Fold X)) where
  keys_marked : (xs : List X) → map (fold_key key) (map Value xs) ≡ map key xs
  keys_marked [] = refl
  keys_marked (x ∷ xs) = ap (λ (hs : List ℕ). key x ∷ hs) (keys_marked xs)

  -- the keys of a cut are the k-minimum of the keys
  keys_cut : (v : Retained X) → unmarked v ≡ cut (fold_key key) k whole start → record { entries = map key v.entries; theta = v.theta } ≡ kmin k (map (fold_key key) whole) start
  keys_cut v is =
      let reported : Retained (Fold X) → Retained ℕ = λ u. record { entries = map (fold_key key) u.entries; theta = u.theta } in
      ap (λ (hs : List ℕ). record { entries = hs; theta = v.theta }) (sym (keys_marked v.entries))
      ∙ ap reported is ∙ sym (cut-map (fold_key key) (fold_key key) hash_key (λ x. refl) k whole start)

  has_keys : (w : Sketch X) (h : ℕ) (s : State X) → s ≡ ordered_sketch w h → unmarked_value w ≡ NonEmpty (cut (fold_key key) k whole start) → HasKeys key (kmin k (map (fold_key key) whole) start) s
  has_keys Empty h s is value = absurd (cc)
  has_keys (NonEmpty v) h s is value =
      let same : unmarked v ≡ cut (fold_key key) k whole start = cc in
      let keys = keys_cut v same in
      record {
        nonempty = ap (λ t. t.empty) is;
        hashes = ap (λ t. map key t.entries) is ∙ ap (λ u. u.entries) keys;
        theta = ap (λ t. t.theta) is ∙ ap (λ u. u.theta) keys;
        ordered = ap (λ t. t.ordered) is;
      }

  -- the k-minimum of these hashes, if they are the keys of the whole map
  pub merged_keys : (hashes : List ℕ) (v : Sketch (Fold X)) (h : ℕ) (r : Result (State X) ErrorKind) → map (fold_key key) whole ≡ hashes → OnOk r (v ≡ NonEmpty (cut (fold_key key) k whole start)) → IfOk r (λ s. IsOrderedSketchOf key v h s) → IfOk r (HasKeys key (kmin k hashes start))
  merged_keys hashes v h (Ok s) keys merged is = subst (λ hs. HasKeys key (kmin k hs start) s) keys (has_keys (compact_value key s) h s is.1 (is.0 ∙ merged))
  merged_keys hashes v h (Err e) keys merged is = tt

module _ {S Z : Type 0} (whole_number : S → ℤ) (least greatest : ℤ) (zero : S) (sums : S → S → Option S) (zero_is : whole_number zero ≡ pos 0) (summed : (x y : S) → option_map whole_number (sums x y) ≡ sum_within least greatest (whole_number x) (whole_number y)) (seed : ℕ) (p : Plan S Z) where
  abbrev IsSum : State (TupleEntry S) → Type 0
  IsSum s = (h : ℕ) (e : TupleEntry S) → entry_at tuple_key s.entries h ≡ Some e → whole_number e.summary ≡ total (map whole_number (added_values h p))

  summed_value : (w : Sketch (TupleEntry S)) (hash : ℕ) (s : State (TupleEntry S)) → plan_refusal seed p ≡ None → only_unites p ≡ true → s ≡ ordered_sketch w hash → unmarked_value w ≡ value_in (tuple_folds (Some zero) sums sums) p → IsSum s
  summed_value Empty hash s accepted unites is value h e found = absurd (let none : None ≡ Some e = sym (ap (λ (t : State (TupleEntry S)). entry_at tuple_key t.entries h) is) ∙ found in cc)
  summed_value (NonEmpty v) hash s accepted unites is value h e found =
      retained_sums whole_number least greatest zero sums zero_is summed seed h p v e accepted unites (sym value) (sym (ap (λ (t : State (TupleEntry S)). entry_at tuple_key t.entries h) is) ∙ found)

  pub summed_sketch : (hash : ℕ) (r : Result (State (TupleEntry S)) ErrorKind) → OnOk r (plan_refusal seed p ≡ None) → IfOk r (λ s. IsOrderedSketchOf tuple_key (value_in (tuple_folds (Some zero) sums sums) p) hash s) → only_unites p ≡ true → IfOk r IsSum
  summed_sketch hash (Ok s) accepted is unites = summed_value (compact_value tuple_key s) hash s accepted unites is.1 is.0
  summed_sketch hash (Err e) accepted is unites = tt
