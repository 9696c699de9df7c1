-- Sketches whose entries, from a hash on and below another, are merged into a table, one sketch after another.
use Rattle.std.proofs.Common.{◌≡◌, ℕ, ◌^◌, ◌+◌, ◌<◌, Bool, List, [], ◌∷◌, ◌++◌, map, length, get_or, take, refl, sym, ap, ◌∙◌, append-nil}
use Rattle.std.specs.Prelude.{flat_map}
use Rattle.std.specs.Option.{option_map}
use Rattle.std.proofs.lemmas.List.{take_more}
use Rattle.std.proofs.lemmas.List.Concat.{flat_map-append}
use Rattle.std.proofs.lemmas.List.Elements.{filter-append}
use Rattle.core_laws.specs.Step.{Step, merge_step}
use Rattle.core_laws.specs.Maps.{below, entry_at}
use Rattle.core_laws.specs.Cuts.{Retained}
use Rattle.core_laws.specs.Insertion.{after_upsert, after_upserts}
use Rattle.core_laws.specs.Folds.{Fold, Value, fold_key, fold_merges, unmarked, never}
use Rattle.core_laws.proofs.maps.MappedEntries.{map-append, below-map, entry_at-map}
use Rattle.core_operators.specs.Union.{at_or_above, IsMergeRefused, IsRangeRefused}
use Rattle.core_table.specs.HashTable.{MapTable}

module _ {X : Type 0} (key : X → ℕ) (k : ℕ) (step_of : X → Step X) where
  pub after_upserts-append : (xs ys : List X) (v : Retained X) → after_upserts key k step_of (xs ++ ys) v ≡ after_upserts key k step_of ys (after_upserts key k step_of xs v)
  after_upserts-append [] ys v = refl
  after_upserts-append (x ∷ xs) ys v = after_upserts-append xs ys (after_upsert key k (key x) (step_of x) v)

module _ {X : Type 0} (key : X → ℕ) (k from to : ℕ) (step_of : Fold X → Step (Fold X)) where
  -- a map in folds after the entries in the range were merged into it
  abbrev pub in_range : List X → Retained (Fold X) → Retained (Fold X)
  in_range xs v = after_upserts (fold_key key) k step_of (map Value (below key (at_or_above key xs from) to)) v

  in_range-append : (xs ys : List X) (v : Retained (Fold X)) → in_range (xs ++ ys) v ≡ in_range ys (in_range xs v)
  in_range-append xs ys v =
      let folded : List (Fold X) → Retained (Fold X) = λ zs. after_upserts (fold_key key) k step_of zs v in
      let low : List X → List X = λ zs. below key zs to in
      ap (λ zs. folded (map Value (low zs))) (filter-append _ xs ys)
      ∙ ap (λ zs. folded (map Value zs)) (filter-append _ (at_or_above key xs from) (at_or_above key ys from))
      ∙ ap folded (map-append Value (low (at_or_above key xs from)) (low (at_or_above key ys from)))
      ∙ after_upserts-append (fold_key key) k step_of (map Value (low (at_or_above key xs from))) (map Value (low (at_or_above key ys from))) v

  -- one sketch more
  pub in_range_next : {S : Type 0} (listing : S → List X) (sketches : List S) (i : ℕ) (s : S) (first was now : Retained (Fold X)) → i < length sketches → s ≡ get_or sketches i s
      → was ≡ in_range (flat_map listing (take i sketches)) first → now ≡ in_range (listing s) was → now ≡ in_range (flat_map listing (take (i + 1) sketches)) first
  in_range_next listing sketches i s first was now lt is before step =
      let read = flat_map listing (take i sketches) in
      let more : flat_map listing (take (i + 1) sketches) ≡ read ++ listing s =
      ap (flat_map listing) (take_more sketches i s lt ∙ ap (λ x. take i sketches ++ x ∷ []) (sym is)) ∙ flat_map-append listing (take i sketches) (s ∷ []) ∙ ap (λ ys. read ++ ys) (append-nil (listing s)) in
      step ∙ ap (λ v. in_range (listing s) v) before ∙ sym (ap (λ ys. in_range ys first) more ∙ in_range-append read (listing s) first)

module _ {X : Type 0} (key : X → ℕ) (merges : X → X → X) (refuses : X → X → Bool) where
  -- what a policy refuses in the table after the sketches before
  pub range_refused : (old : MapTable X) (from to : ℕ) (now : Retained X) (before arriving : List X)
      → unmarked now ≡ after_upserts (fold_key key) (2 ^ old.lg_nom) (merge_step (fold_merges key merges refuses) never) (map Value (below key (at_or_above key before from) to)) (unmarked old.kept)
      → IsMergeRefused key refuses (below key now.entries to) (at_or_above key arriving from) → IsRangeRefused key merges refuses old from to before arriving
  range_refused old from to now before arriving merged found = record {
    at = found.at;
    held_entry = found.held_entry;
    new_entry = found.new_entry;
    is_held =
        ap (λ v. entry_at (fold_key key) (below (fold_key key) v.entries to) found.at) (sym merged)
        ∙ ap (λ ys. entry_at (fold_key key) ys found.at) (below-map Value key (fold_key key) (λ x. refl) now.entries to)
        ∙ entry_at-map Value key (fold_key key) (λ x. refl) (below key now.entries to) found.at
        ∙ ap (option_map Value) found.is_held;
    comes = found.comes;
    refused = found.refused;
  }
