-- The sums of a merge: each is the sum of all values that were added at its hash.
use Rattle.std.proofs.Common.{◌≡◌, ◌≢◌, ℕ, true, false, cond, ltb, IsSome, is_some, is_none, List, [], ◌∷◌, ◌++◌, map, Option, Some, None, refl, sym, ap, subst, ◌∙◌}
use Rattle.std.specs.Prelude.{ℤ, pos, ◌+ℤ◌, ⊤}
use Rattle.std.specs.Option.{option_map, option_map_or, option_and_then}
use Rattle.std.proofs.lemmas.Bool.{true≢false}
use Rattle.std.proofs.lemmas.List.{append-nil}
use Rattle.std.proofs.Math.IntN.{+ℤ_assoc, +ℤ_idl, +ℤ_idr}
use Rattle.core_laws.specs.Cuts.{Retained}
use Rattle.core_laws.specs.Entries.{hash_key, is_carried}
use Rattle.core_laws.specs.Folds.{Fold, Value, Refused, fold_key, fold_merges, unmarked_value}
use Rattle.core_laws.specs.Maps.{below, entry_at}
use Rattle.core_laws.specs.Refusal.{policy_refusal}
use Rattle.core_laws.specs.Samples.{IsSample}
use Rattle.core_laws.specs.Values.{NonEmpty}
use Rattle.core_laws.proofs.maps.LookUps.{entry_at-below}
use Rattle.core_laws.proofs.maps.MappedEntries.{entry_at-map}
use Rattle.core_laws.proofs.operators.JoinedMaps.{either}
use Rattle.core_policies.specs.Sums.{is_within, sum_within}
use Rattle.core_policies.specs.Summaries.{first_summary, after_values, fold_of, fold_at, values_at, combined, combine_refused}
use Rattle.core_policies.proofs.FoldedValues.{folded-values}
use Rattle.core_slots.specs.Entry.{tuple_key, tuple_of, with_summary}
use Rattle.core_slots.specs.declared.entry.TupleEntry.{TupleEntry}
use Rattle.plan_text.specs.declared.plan.Plan.{Plan}
use Rattle.plan_values.specs.AddedValues.{added_values, total}
use Rattle.plan_values.specs.Family.{Family, hashes, tuple_folds}
use Rattle.plan_values.specs.MergePlan.{only_unites}
use Rattle.plan_values.specs.Value.{value_in, plan_refusal}
use Rattle.plan_values.specs.WholeStreams.{whole_in, whole_hashes}
use Rattle.plan_values.proofs.AddedValues.{Told, merge_relation, any_value, merge_lacks, merge_has}
use Rattle.plan_values.proofs.KnownFamilies.{hashes_keep, tuple_folds_keep}
use Rattle.plan_values.proofs.Samples.{sampled}

-- ---- whether a hash has a fold

module _ {V : Type 0} where
  any_there : (us : List V) → any_value us ≡ true → us ≢ []
  any_there [] any = absurd (true≢false (sym any))
  any_there (u ∷ us) any = λ none. absurd (cc)

  there_any : (us : List V) → us ≢ [] → any_value us ≡ true
  there_any [] there = absurd (there refl)
  there_any (u ∷ us) there = refl

module _ {S U : Type 0} (creates : Option S) (updates : S → U → Option S) (combines : S → S → Option S) where
  pub makes_fold : (h : ℕ) (u : U) → is_some ((tuple_folds creates updates combines).step_of h u).makes ≡ true
  makes_fold h u =
      elim (first_summary creates updates u) as (λ r. is_some (cond (is_some (policy_refusal (is_none r))) (Some (Refused h)) (option_map Value (option_map (tuple_of h) r))) ≡ true) [
        | Some s ↦ refl
        | None ↦ refl
      ]

  pub fold_added : {Z : Type 0} (h : ℕ) (p : Plan U Z) → is_carried h ≡ true → only_unites p ≡ true → IsSome (entry_at (fold_key tuple_key) (whole_in (tuple_folds creates updates combines) p) h) → added_values h p ≢ []
  fold_added h p carried unites some =
      any_there (added_values h p) (sym (merge_has (tuple_folds creates updates combines) (tuple_folds_keep creates updates combines) makes_fold h p carried unites) ∙ some)

  pub added_fold : {Z : Type 0} (h : ℕ) (p : Plan U Z) → is_carried h ≡ true → only_unites p ≡ true → added_values h p ≢ [] → IsSome (entry_at (fold_key tuple_key) (whole_in (tuple_folds creates updates combines) p) h)
  added_fold h p carried unites there =
      merge_has (tuple_folds creates updates combines) (tuple_folds_keep creates updates combines) makes_fold h p carried unites ∙ there_any (added_values h p) there

  pub no_fold : {Z : Type 0} (h : ℕ) (p : Plan U Z) → is_carried h ≡ false → only_unites p ≡ true → entry_at (fold_key tuple_key) (whole_in (tuple_folds creates updates combines) p) h ≡ None
  no_fold h p uncarried unites = merge_lacks (tuple_folds creates updates combines) (tuple_folds_keep creates updates combines) h p uncarried unites

module _ {Z : Type 0} where
  pub hash_added : (h : ℕ) (p : Plan (Unit {0}) Z) → is_carried h ≡ true → only_unites p ≡ true → IsSome (entry_at hash_key (whole_hashes p) h) → added_values h p ≢ []
  hash_added h p carried unites some = any_there (added_values h p) (sym (merge_has hashes hashes_keep (λ g u. refl) h p carried unites) ∙ some)

  pub added_hash : (h : ℕ) (p : Plan (Unit {0}) Z) → is_carried h ≡ true → only_unites p ≡ true → added_values h p ≢ [] → IsSome (entry_at hash_key (whole_hashes p) h)
  added_hash h p carried unites there = merge_has hashes hashes_keep (λ g u. refl) h p carried unites ∙ there_any (added_values h p) there

  pub no_hash : (h : ℕ) (p : Plan (Unit {0}) Z) → is_carried h ≡ false → only_unites p ≡ true → entry_at hash_key (whole_hashes p) h ≡ None
  no_hash h p uncarried unites = merge_lacks hashes hashes_keep h p uncarried unites

-- ---- sums

total-append : (xs ys : List ℤ) → total (xs ++ ys) ≡ total xs +ℤ total ys
total-append [] ys = sym (+ℤ_idl (total ys))
total-append (x ∷ xs) ys = ap (λ (z : ℤ). x +ℤ z) (total-append xs ys) ∙ sym (+ℤ_assoc x (total xs) (total ys))

map-append : {S : Type 0} (f : S → ℤ) (us vs : List S) → map f (us ++ vs) ≡ map f us ++ map f vs
map-append f [] vs = refl
map-append f (u ∷ us) vs = ap (λ (zs : List ℤ). f u ∷ zs) (map-append f us vs)

within_sum : (least greatest x y z : ℤ) → sum_within least greatest x y ≡ Some z → z ≡ x +ℤ y
within_sum least greatest x y z e =
    (elim (is_within least greatest (x +ℤ y)) as (λ b. cond b (Some (x +ℤ y)) None ≡ Some z → z ≡ x +ℤ y) [
      | true ↦ λ some. cc
      | false ↦ λ none. absurd (cc)
    ]) e

module _ {S : Type 0} (whole_number : S → ℤ) (least greatest : ℤ) (zero : S) (sums : S → S → Option S) (zero_is : whole_number zero ≡ pos 0) (summed : (x y : S) → option_map whole_number (sums x y) ≡ sum_within least greatest (whole_number x) (whole_number y)) where
  -- a sum that isn't refused
  sum_is : (x y s : S) → sums x y ≡ Some s → whole_number s ≡ whole_number x +ℤ whole_number y
  sum_is x y s e = within_sum least greatest (whole_number x) (whole_number y) (whole_number s) (sym (summed x y) ∙ ap (λ o. option_map whole_number o) e)

  abbrev amount : List S → ℤ
  amount us = total (map whole_number us)

  amount-append : (us vs : List S) → amount (us ++ vs) ≡ amount us +ℤ amount vs
  amount-append us vs = ap total (map-append whole_number us vs) ∙ total-append (map whole_number us) (map whole_number vs)

  -- the fold found at a hash is the sum of these values: no fold for no values, and a mark for any
  abbrev SumsUp : Option (Fold (TupleEntry S)) → List S → Type 0
  SumsUp None us = us ≡ []
  SumsUp (Some (Value e)) us = whole_number e.summary ≡ amount us
  SumsUp (Some (Refused g)) us = ⊤

  two_folds : (a b : TupleEntry S) (us vs : List S) → whole_number a.summary ≡ amount us → whole_number b.summary ≡ amount vs →
      SumsUp (Some (fold_merges tuple_key (combined sums) (combine_refused sums) (Value a) (Value b))) (us ++ vs)
  two_folds a b us vs one two =
      (elim (sums a.summary b.summary) as (λ r. sums a.summary b.summary ≡ r → SumsUp (Some (cond (is_none r) (Refused (tuple_key a)) (Value (option_map_or (with_summary a) r a)))) (us ++ vs)) [
        | Some s ↦ λ e. sum_is a.summary b.summary s e ∙ ap (λ (z : ℤ). z +ℤ whole_number b.summary) one ∙ ap (λ (z : ℤ). amount us +ℤ z) two ∙ sym (amount-append us vs)
        | None ↦ λ e. tt
      ]) refl

  both_sum : (o p : Option (Fold (TupleEntry S))) (us vs : List S) → SumsUp o us → SumsUp p vs → SumsUp (either (fold_merges tuple_key (combined sums) (combine_refused sums)) o p) (us ++ vs)
  both_sum o None us vs a b = subst (λ ws. SumsUp o (us ++ ws)) (sym b) (subst (λ ws. SumsUp o ws) (sym (append-nil us)) a)
  both_sum None (Some y) us vs a b = subst (λ ws. SumsUp (Some y) (ws ++ vs)) (sym a) b
  both_sum (Some (Refused g)) (Some y) us vs a b = tt
  both_sum (Some (Value x)) (Some (Refused g)) us vs a b = tt
  both_sum (Some (Value x)) (Some (Value y)) us vs a b = two_folds x y us vs a b

  -- after a refusal there is no sum
  refused : (us : List S) (t : S) → after_values sums None us ≡ Some t → ⊥
  refused [] t e = cc
  refused (u ∷ us) t e = refused us t e

  -- values in turn
  values_sum : (us : List S) (o : Option S) (s t : S) → o ≡ Some s → after_values sums o us ≡ Some t → whole_number t ≡ whole_number s +ℤ amount us
  values_sum [] o s t begun e = let same : s ≡ t = cc in ap whole_number (sym same) ∙ sym (+ℤ_idr (whole_number s))
  values_sum (u ∷ us) o s t begun e =
      (elim (sums s u) as (λ r. sums s u ≡ r → whole_number t ≡ whole_number s +ℤ amount (u ∷ us)) [
        | Some next ↦ λ f.
            values_sum us (option_and_then (λ x. sums x u) o) next t (ap (λ q. option_and_then (λ x. sums x u) q) begun ∙ f) e
            ∙ ap (λ (z : ℤ). z +ℤ amount us) (sum_is s u next f) ∙ +ℤ_assoc (whole_number s) (whole_number u) (amount us)
        | None ↦ λ f. absurd (refused us t (sym (ap (λ q. after_values sums q us) (ap (λ q. option_and_then (λ x. sums x u) q) begun ∙ f)) ∙ e))
      ]) refl

  leaf_sums : (h : ℕ) (us : List S) → SumsUp (fold_at (Some zero) sums h us) us
  leaf_sums h [] = refl
  leaf_sums h (u ∷ us) =
      (elim (after_values sums (Some zero) (u ∷ us)) as (λ r. after_values sums (Some zero) (u ∷ us) ≡ r → SumsUp (Some (fold_of h r)) (u ∷ us)) [
        | Some t ↦ λ e. values_sum (u ∷ us) (Some zero) zero t refl e ∙ ap (λ (z : ℤ). z +ℤ amount (u ∷ us)) zero_is ∙ +ℤ_idl (amount (u ∷ us))
        | None ↦ λ e. tt
      ]) refl

  abbrev folds : Family (Fold (TupleEntry S)) S
  folds = tuple_folds (Some zero) sums sums

  summing : (h : ℕ) → is_carried h ≡ true → Told folds h SumsUp
  summing h carried = record {
    of_none = refl;
    of_both = both_sum;
    of_leaf = λ steps. subst (λ o. SumsUp o (values_at h steps)) (sym (folded-values (Some zero) sums steps h [] [] carried refl)) (leaf_sums h (values_at h steps));
  }

  value_reported : (o : Option (Fold (TupleEntry S))) (us : List S) (e : TupleEntry S) → o ≡ Some (Value e) → SumsUp o us → whole_number e.summary ≡ amount us
  value_reported o us e is sums_up = subst (λ q. SumsUp q us) is sums_up

  no_value : (o : Option (Fold (TupleEntry S))) (e : TupleEntry S) → o ≡ None → o ≡ Some (Value e) → ⊥
  no_value o e none some = cc

  -- in a plan of leaves and unions alone, a sum of the whole map is that of all values that were added at its hash
  pub merged_sums : {Z : Type 0} (h : ℕ) (p : Plan S Z) (e : TupleEntry S) → only_unites p ≡ true → entry_at (fold_key tuple_key) (whole_in folds p) h ≡ Some (Value e) → whole_number e.summary ≡ total (map whole_number (added_values h p))
  merged_sums {Z} h p e unites found =
      (elim (is_carried h) as (λ b. is_carried h ≡ b → whole_number e.summary ≡ total (map whole_number (added_values h p))) [
        | true ↦ λ carried. value_reported _ (added_values h p) e found (merge_relation Z folds (tuple_folds_keep (Some zero) sums sums) h SumsUp (summing h carried) p unites)
        | false ↦ λ uncarried. absurd (no_value _ e (merge_lacks folds (tuple_folds_keep (Some zero) sums sums) h p uncarried unites) found)
      ]) refl

  -- a retained entry is in the whole map
  found_below : (key : Fold (TupleEntry S) → ℕ) (xs : List (Fold (TupleEntry S))) (t q : ℕ) (x : Fold (TupleEntry S)) → entry_at key (below key xs t) q ≡ Some x → entry_at key xs q ≡ Some x
  found_below key xs t q x found =
      (elim (ltb q t) as (λ b. cond b (entry_at key xs q) None ≡ Some x → entry_at key xs q ≡ Some x) [
        | true ↦ λ e. e
        | false ↦ λ e. absurd (cc)
      ]) (sym (entry_at-below key xs t q) ∙ found)

  -- so is a sum that is retained
  pub retained_sums : {Z : Type 0} (seed h : ℕ) (p : Plan S Z) (v : Retained (TupleEntry S)) (e : TupleEntry S) → plan_refusal seed p ≡ None → only_unites p ≡ true → value_in folds p ≡ unmarked_value (NonEmpty v) → entry_at tuple_key v.entries h ≡ Some e → whole_number e.summary ≡ total (map whole_number (added_values h p))
  retained_sums {Z} seed h p v e accepts unites is found =
      let sample : IsSample (fold_key tuple_key) (unmarked_value (NonEmpty v)) (whole_in folds p) = subst (λ u. IsSample (fold_key tuple_key) u (whole_in folds p)) is (sampled Z folds (tuple_folds_keep (Some zero) sums sums) seed p accepts) in
      let marked : entry_at (fold_key tuple_key) (map Value v.entries) h ≡ Some (Value e) = entry_at-map Value tuple_key (fold_key tuple_key) (λ y. refl) v.entries h ∙ ap (λ o. option_map Value o) found in
      merged_sums h p e unites
      (found_below (fold_key tuple_key) (whole_in folds p) v.theta h (Value e) (ap (λ (xs : List (Fold (TupleEntry S))). entry_at (fold_key tuple_key) xs h) (sym sample.all_below) ∙ marked))
