-- A sketch of sums, after a trim: the hashes that the theta sketch of the same lines retains, each with its exact sum, or the
-- least or the greatest number.
use Rattle.std.proofs.Common.{◌≡◌, ℕ, ◌^◌, true, false, cond, ltb, List, [], ◌∷◌, length, map, Some, None, refl, sym, subst, ap, ◌∙◌, arith}
use Rattle.std.specs.Prelude.{◌==◌, Bool}
use Rattle.std.specs.Option.{option_map}
use Rattle.std.proofs.lemmas.Bool.Decides.{nat_tests}
use Rattle.core_laws.specs.Cuts.{Retained, cut}
use Rattle.core_laws.specs.Folds.{Fold, Value, fold_key, folded_of, unmarked}
use Rattle.core_laws.specs.Lawful.{IsWithin}
use Rattle.core_laws.specs.Leaf.{KeepsHashes, kmin, whole}
use Rattle.core_laws.specs.Maps.{below, entry_at}
use Rattle.core_laws.specs.Values.{Empty, NonEmpty}
use Rattle.core_laws.specs.declared.TheConstants.{MAX_THETA}
use Rattle.core_laws.proofs.cuts.LawfulThetas.{cut_lawful}
use Rattle.core_laws.proofs.cuts.WithinWholeMaps.{cut_below}
use Rattle.core_laws.proofs.insertions.FoldedSteps.{folded-keeps}
use Rattle.core_laws.proofs.insertions.Leaves.{within-leaf}
use Rattle.core_laws.proofs.maps.LookUps.{entry_at-below}
use Rattle.core_laws.proofs.maps.MappedEntries.{cut-map, entry_at-map}
use Rattle.core_policies.proofs.FoldedValues.{updates-keep}
use Rattle.core_slots.specs.Entry.{tuple_key, tuple_of}
use Rattle.core_slots.specs.declared.entry.TupleEntry.{TupleEntry}
use Rattle.keys_lines.specs.declared.key.Hashing.{Hashing}
use Rattle.keys_sketches.specs.Keys.{key_set}
use Rattle.keys_sums.specs.Sums.{amounts, folds_of_lines, summary_at, sum_steps, sums_of_lines}
use Rattle.keys_sums.proofs.Amounts.{same_hashes, same_steps}
use Rattle.tuple_sketches.specs.Given.{given_values}
use Rattle.tuple_sketches.specs.Streams.{set_of}
use Rattle.tuple_sketches.specs.Numbers.{first_number, combined_number, adds_number, given_numbers}
use Rattle.tuple_sketches.specs.declared.numbers.SummaryMode.{SummaryMode}
use Rattle.tuple_sketches.proofs.Sums as sums

pub folds_keep : (mode : SummaryMode) → KeepsHashes (fold_key tuple_key) (folded_of tuple_key (adds_number mode))
folds_keep mode = folded-keeps tuple_key (adds_number mode) (updates-keep (Some (first_number mode)) (combined_number mode))

-- what is found below a theta is there
found_below : {X : Type 0} (key : X → ℕ) (xs : List X) (t q : ℕ) (x : X) → entry_at key (below key xs t) q ≡ Some x → entry_at key xs q ≡ Some x
found_below key xs t q x found =
    (elim (ltb q t) as (λ b. cond b (entry_at key xs q) None ≡ Some x → entry_at key xs q ≡ Some x) [ true ↦ λ e. e | false ↦ λ e. absurd (cc) ]) (sym (entry_at-below key xs t q) ∙ found)

module _ (mode : SummaryMode) (hashing : Hashing) (amount : List ℕ → ℕ) (lines : List (List ℕ)) where
  abbrev whole_map : List (Fold (TupleEntry ℕ))
  whole_map = whole (fold_key tuple_key) (folded_of tuple_key (adds_number mode)) (sum_steps hashing amount lines)

  -- it is what the stream of what the lines add gives
  given : (given_numbers mode (amounts hashing amount lines)).whole ≡ whole_map
  unfolding given_values
  given = ap (λ steps. whole (fold_key tuple_key) (folded_of tuple_key (adds_number mode)) steps) (same_steps hashing amount lines)

  -- what folds retain after the lines is within it
  within : (lg_k : ℕ) → IsWithin (fold_key tuple_key) (2 ^ lg_k) MAX_THETA (folds_of_lines mode hashing amount lg_k lines) whole_map
  within lg_k = within-leaf (fold_key tuple_key) (folded_of tuple_key (adds_number mode)) (folds_keep mode) (2 ^ lg_k) MAX_THETA (sum_steps hashing amount lines) (omega arith)

  number_at : (q : ℕ) (e : TupleEntry ℕ) → entry_at (fold_key tuple_key) whole_map q ≡ Some (Value e) → e.summary ≡ summary_at mode hashing amount lines q
  number_at q e found =
      sums.summary_at mode (amounts hashing amount lines) q e (subst (λ (fs : List (Fold (TupleEntry ℕ))). entry_at (fold_key tuple_key) fs q ≡ Some (Value e)) (sym given) found)

  -- the number beside a hash that is retained, before a trim too
  pub retained_number : (lg_k : ℕ) (v : Retained (TupleEntry ℕ)) (q : ℕ) (e : TupleEntry ℕ) → unmarked v ≡ folds_of_lines mode hashing amount lg_k lines → entry_at tuple_key v.entries q ≡ Some e → e.summary ≡ summary_at mode hashing amount lines q
  retained_number lg_k v q e is found =
      let folds : Retained (Fold (TupleEntry ℕ)) = folds_of_lines mode hashing amount lg_k lines in
      let marked : entry_at (fold_key tuple_key) (unmarked v).entries q ≡ Some (Value e) = entry_at-map Value tuple_key (fold_key tuple_key) (λ x. refl) v.entries q ∙ ap (option_map Value) found in
      let kept : entry_at (fold_key tuple_key) (below (fold_key tuple_key) whole_map folds.theta) q ≡ Some (Value e) =
      ap (λ (fs : List (Fold (TupleEntry ℕ))). entry_at (fold_key tuple_key) fs q) (sym (within lg_k).entries_are) ∙ ap (λ (r : Retained (Fold (TupleEntry ℕ))). entry_at (fold_key tuple_key) r.entries q) (sym is) ∙ marked in
      number_at q e (found_below (fold_key tuple_key) whole_map folds.theta q (Value e) kept)

  -- what is retained of the whole map without a mark
  retained_exact : (k : ℕ) (v : Retained (TupleEntry ℕ)) → unmarked v ≡ cut (fold_key tuple_key) k whole_map MAX_THETA →
      v ≡ record { entries = map (λ h. tuple_of h (summary_at mode hashing amount lines h)) (kmin k (key_set hashing lines) MAX_THETA).entries; theta = (kmin k (key_set hashing lines) MAX_THETA).theta }
  retained_exact k v is =
      sums.numbers_retained mode k MAX_THETA (amounts hashing amount lines) v (is ∙ ap (λ (fs : List (Fold (TupleEntry ℕ))). cut (fold_key tuple_key) k fs MAX_THETA) (sym given))
      ∙ (λ i. record {
        entries = map (λ h. tuple_of h (summary_at mode hashing amount lines h)) (kmin k (set_of (same_hashes hashing amount lines i)) MAX_THETA).entries;
        theta = (kmin k (set_of (same_hashes hashing amount lines i)) MAX_THETA).theta;
      })

pub not_none : {T : Type 0} (x : T) (xs : List T) → (length (x ∷ xs) == 0) ≡ false
not_none x xs = grind (arith, nat_tests)

pub injected : {X : Type 0} (u v : Retained X) → NonEmpty u ≡ NonEmpty v → u ≡ v
injected u v same = cc

module _ (mode : SummaryMode) (hashing : Hashing) (amount : List ℕ → ℕ) (lg_k : ℕ) where
  -- what folds retain after lines and a trim
  trimmed_folds : (lines : List (List ℕ)) (v : Retained (Fold (TupleEntry ℕ))) → v ≡ folds_of_lines mode hashing amount lg_k lines →
      cut (fold_key tuple_key) (2 ^ lg_k) v.entries v.theta ≡ cut (fold_key tuple_key) (2 ^ lg_k) (whole_map mode hashing amount lines) MAX_THETA
  trimmed_folds lines v is =
      let all : List (Fold (TupleEntry ℕ)) = whole_map mode hashing amount lines in
      let theta : ℕ = (folds_of_lines mode hashing amount lg_k lines).theta in
      let kept = within mode hashing amount lines lg_k in
      ap (λ (r : Retained (Fold (TupleEntry ℕ))). cut (fold_key tuple_key) (2 ^ lg_k) r.entries r.theta) is
      ∙ ap (λ (fs : List (Fold (TupleEntry ℕ))). cut (fold_key tuple_key) (2 ^ lg_k) fs theta) kept.entries_are
      ∙ cut_below (fold_key tuple_key) (2 ^ lg_k) all theta kept.ascending
      ∙ cut_lawful (fold_key tuple_key) all (2 ^ lg_k) MAX_THETA theta kept.ascending kept.lawful

  -- the value after a trim
  pub trimmed_exact : (lines : List (List ℕ)) (v : Retained (TupleEntry ℕ)) (empty : Bool) → unmarked v ≡ folds_of_lines mode hashing amount lg_k lines → empty ≡ (length lines == 0) →
      cond empty Empty (NonEmpty (cut tuple_key (2 ^ lg_k) v.entries v.theta)) ≡ sums_of_lines mode hashing amount lg_k lines
  trimmed_exact [] v empty is none = ap (λ b. cond b Empty (NonEmpty (cut tuple_key (2 ^ lg_k) v.entries v.theta))) none
  trimmed_exact (line ∷ lines) v empty is some =
      let marked : unmarked (cut tuple_key (2 ^ lg_k) v.entries v.theta) ≡ cut (fold_key tuple_key) (2 ^ lg_k) (whole_map mode hashing amount (line ∷ lines)) MAX_THETA =
      sym (cut-map Value tuple_key (fold_key tuple_key) (λ x. refl) (2 ^ lg_k) v.entries v.theta) ∙ trimmed_folds (line ∷ lines) (unmarked v) is in
      ap (λ b. cond b Empty (NonEmpty (cut tuple_key (2 ^ lg_k) v.entries v.theta))) (some ∙ not_none line lines)
      ∙ ap NonEmpty (retained_exact mode hashing amount (line ∷ lines) (2 ^ lg_k) (cut tuple_key (2 ^ lg_k) v.entries v.theta) marked)
