-- Sketches of sums of lines that were sketched apart: their union, in folds, has the sums of all lines, or their least or
-- greatest numbers.
use Rattle.std.proofs.Common.{◌≡◌, ℕ, ◌+◌, ◌^◌, min, max, ◌≤◌, ◌<◌, true, false, cond, eqb, ltb, List, [], ◌∷◌, ◌++◌, map, Option, Some, None, IsSome, inl, inr, refl, sym, ap, subst, ◌∙◌, arith}
use Rattle.std.specs.Prelude.{⊤, is_none}
use Rattle.std.specs.List.{AllByRecursion}
use Rattle.std.specs.Option.{option_map, option_map_or}
use Rattle.std.proofs.lemmas.Bool.Decides.{nat_tests}
use Rattle.std.proofs.Math.Pow.{pow_mono}
use Rattle.core_laws.specs.Cuts.{Retained, cut}
use Rattle.core_laws.specs.Entries.{hash_key, first_hash, is_carried, KeepsKey}
use Rattle.core_laws.specs.Folds.{Fold, Value, Refused, fold_key, unmarked, unmarked_value}
use Rattle.core_laws.specs.Lawful.{IsLawful}
use Rattle.core_laws.specs.Leaf.{kmin}
use Rattle.core_laws.specs.Maps.{IsAscending, below, entry_at}
use Rattle.core_laws.specs.Operators.{joined, joined_all, nonempties, unite, unite_nonempty}
use Rattle.core_laws.specs.Samples.{IsSample, AreSamples, IsLawfulValue, AreLawful}
use Rattle.core_laws.specs.Values.{Sketch, Empty, NonEmpty}
use Rattle.core_laws.specs.declared.TheConstants.{MAX_THETA}
use Rattle.core_laws.proofs.cuts.WithinWholeMaps.{found_key}
use Rattle.core_laws.proofs.insertions.Unmarked.{fold_keeps}
use Rattle.core_laws.proofs.maps.Ascending.{ascending-nil}
use Rattle.core_laws.proofs.maps.LookUps.{same_map}
use Rattle.core_laws.proofs.maps.MapsOfLists.{ascending-apart, ascending-map, ascending-from_map}
use Rattle.core_laws.proofs.maps.MappedEntries.{below-map, entry_at-map, rank-map}
use Rattle.core_laws.proofs.operators.JoinedMaps.{either, entry_at-joined}
use Rattle.core_laws.proofs.operators.Samples.{lawful_less, union_lawful}
use Rattle.core_laws.proofs.operators.Unions.{ascending-joined_all}
use Rattle.core_policies.specs.Summaries.{combined, combine_refused, combined-keeps}
use Rattle.core_policies.specs.Sums.{unsigned_sum}
use Rattle.tuple_sketches.specs.Numbers.{first_number, merged_number, combined_number}
use Rattle.tuple_sketches.specs.declared.numbers.SummaryMode.{SummaryMode}
use Rattle.tuple_sketches.specs.declared.numbers.SummaryMode.TheVariants.{Sum, Min, Max}
use Rattle.core_slots.specs.Entry.{tuple_key, tuple_of, with_summary}
use Rattle.core_slots.specs.declared.entry.TupleEntry.{TupleEntry}
use Rattle.keys_lines.specs.Keys.{line_hash}
use Rattle.keys_lines.specs.declared.key.Hashing.{Hashing}
use Rattle.core_streams.proofs.HashSets.{at-set_of, ascending-set_of, carried-set_of, none-set_of}
use Rattle.keys_sketches.specs.Keys.{line_hashes, key_set, IsAmong}
use Rattle.keys_sketches.proofs.Shards.{all_lines, is_nil, nil_is, is_found, part_of, parts_joined}
use Rattle.keys_sums.specs.Sums.{summary_at, sums_of_lines}
use Rattle.keys_sums.specs.Unions.{merge_folds}
use Rattle.keys_sums.proofs.Amounts.{IsKept, kept_merged, merged_associates, merged_commutes, merged_repeats, summary_append, summary_kept}
use Rattle.keys_sums.proofs.Exact.{injected}
use Rattle.tuple_sketches.specs.Streams.{set_of}
use Rattle.tuple_sketches.proofs.Sums.{HasNumber, each_found, retained_numbers}

pub merge_keeps : (mode : SummaryMode) → KeepsKey (fold_key tuple_key) (merge_folds mode)
merge_keeps mode = fold_keeps tuple_key (combined (combined_number mode)) (combine_refused (combined_number mode)) (combined-keeps (combined_number mode))

-- ---- what is at one hash in a map of folds, and in the set of its keys, by the sum of what lines add there, or the least or
-- the greatest of it

-- a fold of this hash has this number, if a sketch may retain the hash, or it is a mark
abbrev HasSum : (q : ℕ) → Fold (TupleEntry ℕ) → (n : ℕ) → Type 0
HasSum q (Value e) n = (e.hash ≡ q) × (is_carried q ≡ true → e.summary ≡ n)
HasSum q (Refused h) n = h ≡ q

abbrev IsThere : (q : ℕ) → Fold (TupleEntry ℕ) → Option ℕ → (n : ℕ) → Type 0
IsThere q x None n = ⊥
IsThere q x (Some h) n = (h ≡ q) × HasSum q x n

-- its number, found
sum_found : (q n : ℕ) (y x : Fold (TupleEntry ℕ)) (p : Option ℕ) → IsThere q y p n → ◌≡◌ {A = Option (Fold (TupleEntry ℕ))} (Some y) (Some x) → HasSum q x n
sum_found q n y x None is found = absurd is
sum_found q n y x (Some h) is found = let same : y ≡ x = cc in subst (λ f. HasSum q f n) same is.1

-- its key
key_there : (q n : ℕ) (x : Fold (TupleEntry ℕ)) (h : ℕ) → IsThere q x (Some h) n → fold_key tuple_key x ≡ h
key_there q n (Value e) h is = is.1.0 ∙ sym is.0
key_there q n (Refused r) h is = is.1 ∙ sym is.0

module _ (mode : SummaryMode) where
  abbrev IsAbsent : (q : ℕ) → Option ℕ → (n : ℕ) → Type 0
  IsAbsent q None n = is_carried q ≡ true → n ≡ first_number mode
  IsAbsent q (Some h) n = ⊥

  abbrev Matches : (q : ℕ) → Option (Fold (TupleEntry ℕ)) → Option ℕ → (n : ℕ) → Type 0
  Matches q None p n = IsAbsent q p n
  Matches q (Some x) p n = IsThere q x p n

  -- a number with nothing more
  with_none : (q n m : ℕ) (x : Fold (TupleEntry ℕ)) → IsKept mode n → HasSum q x n → (is_carried q ≡ true → m ≡ first_number mode) → HasSum q x (merged_number mode n m)
  with_none q n m (Value e) kept has none = (has.0, λ c. has.1 c ∙ sym kept ∙ ap (merged_number mode n) (sym (none c)))
  with_none q n m (Refused h) kept has none = has

  none_with : (q n m : ℕ) (x : Fold (TupleEntry ℕ)) → IsKept mode m → (is_carried q ≡ true → n ≡ first_number mode) → HasSum q x m → HasSum q x (merged_number mode n m)
  none_with q n m (Value e) kept none has = (
    has.0,
    λ c. has.1 c ∙ sym kept ∙ merged_commutes mode m (first_number mode) ∙ ap (λ (k : ℕ). merged_number mode k m) (sym (none c)),
  )
  none_with q n m (Refused h) kept none has = has

-- two numbers of one hash
two_sums : (q n m : ℕ) (e d : TupleEntry ℕ) → HasSum q (Value e) n → HasSum q (Value d) m → HasSum q (merge_folds Sum (Value e) (Value d)) (n + m)
two_sums q n m e d has more =
    (elim (ltb (e.summary + d.summary) (2 ^ 64)) as (λ b. HasSum q (cond (is_none (cond b (Some (e.summary + d.summary)) None)) (Refused e.hash) (Value (option_map_or (with_summary e) (cond b (Some (e.summary + d.summary)) None) e))) (n + m)) [
      | true ↦ (has.0, λ c. omega (arith, has.1 c, more.1 c))
      | false ↦ has.0
    ])

two_numbers : (mode : SummaryMode) (q n m : ℕ) (e d : TupleEntry ℕ) → HasSum q (Value e) n → HasSum q (Value d) m → HasSum q (merge_folds mode (Value e) (Value d)) (merged_number mode n m)
two_numbers Sum q n m e d has more = two_sums q n m e d has more
two_numbers Min q n m e d has more = (has.0, λ c. ap (λ (k : ℕ). min k d.summary) (has.1 c) ∙ ap (min n) (more.1 c))
two_numbers Max q n m e d has more = (has.0, λ c. ap (λ (k : ℕ). max k d.summary) (has.1 c) ∙ ap (max n) (more.1 c))

module _ (mode : SummaryMode) where
  both_sums : (q n m : ℕ) (x y : Fold (TupleEntry ℕ)) → HasSum q x n → HasSum q y m → HasSum q (merge_folds mode x y) (merged_number mode n m)
  both_sums q n m (Refused h) y has more = has
  both_sums q n m (Value e) (Refused h) has more = has.0
  both_sums q n m (Value e) (Value d) has more = two_numbers mode q n m e d has more

  -- what is at a hash in joined maps
  matches_both : (q n m : ℕ) (o r : Option (Fold (TupleEntry ℕ))) (p s : Option ℕ) → IsKept mode n → IsKept mode m → Matches mode q o p n → Matches mode q r s m →
      Matches mode q (either (merge_folds mode) o r) (either first_hash p s) (merged_number mode n m)
  matches_both q n m None None None None kept also first second = λ c.
      ap (λ (k : ℕ). merged_number mode k m) (first c) ∙ ap (merged_number mode (first_number mode)) (second c) ∙ merged_repeats mode
  matches_both q n m None None None (Some h) kept also first second = absurd second
  matches_both q n m None (Some y) None None kept also first second = absurd second
  matches_both q n m None (Some y) None (Some h) kept also first second = (second.0, none_with mode q n m y also first second.1)
  matches_both q n m None r (Some h) s kept also first second = absurd first
  matches_both q n m (Some x) r None s kept also first second = absurd first
  matches_both q n m (Some x) None (Some h) None kept also first second = (first.0, with_none mode q n m x kept first.1 second)
  matches_both q n m (Some x) None (Some h) (Some g) kept also first second = absurd second
  matches_both q n m (Some x) (Some y) (Some h) None kept also first second = absurd second
  matches_both q n m (Some x) (Some y) (Some h) (Some g) kept also first second = (first.0, both_sums q n m x y first.1 second.1)

  -- its key
  key_matches : (q n : ℕ) (o : Option (Fold (TupleEntry ℕ))) (p : Option ℕ) → Matches mode q o p n → option_map (fold_key tuple_key) o ≡ p
  key_matches q n None None is = refl
  key_matches q n None (Some h) is = absurd is
  key_matches q n (Some x) None is = absurd is
  key_matches q n (Some x) (Some h) is = ap (λ (g : ℕ). Some g) (key_there q n x h is)

  -- its number
  sum_matches : (q n : ℕ) (o : Option (Fold (TupleEntry ℕ))) (p : Option ℕ) (x : Fold (TupleEntry ℕ)) → Matches mode q o p n → o ≡ Some x → HasSum q x n
  sum_matches q n None p x is found = absurd (cc)
  sum_matches q n (Some y) p x is found = sum_found q n y x p is found

map_again : {X Y Z : Type 0} (f : X → Y) (g : Y → Z) (xs : List X) → map g (map f xs) ≡ map (λ x. g (f x)) xs
map_again f g [] = refl
map_again f g (x ∷ xs) = ap (λ ys. g (f x) ∷ ys) (map_again f g xs)

pub map_self : {Y : Type 0} (f : ℕ → Y) (key : Y → ℕ) (alike : (x : ℕ) → key (f x) ≡ x) (xs : List ℕ) → map key (map f xs) ≡ xs
map_self f key alike [] = refl
map_self f key alike (x ∷ xs) = ap (λ h. h ∷ map key (map f xs)) (alike x) ∙ ap (λ hs. x ∷ hs) (map_self f key alike xs)

some_mapped : {X Y : Type 0} (f : X → Y) (o : Option X) → IsSome o → IsSome (option_map f o)
some_mapped f None some = some
some_mapped f (Some x) some = some

-- what holds of hashes holds of the folds that are made of them
each_made : {Y : Type 0} (f : ℕ → Y) (key : Y → ℕ) (P : ℕ → Type 0) (alike : (x : ℕ) → key (f x) ≡ x) (xs : List ℕ) → AllByRecursion (λ h. P h) xs → AllByRecursion (λ y. P (key y)) (map f xs)
each_made f key P alike [] all = tt
each_made f key P alike (x ∷ xs) all = (subst P (sym (alike x)) all.0, each_made f key P alike xs all.1)

-- a value in folds without a mark
is_empty : (u : Sketch (TupleEntry ℕ)) → unmarked_value u ≡ Empty → u ≡ Empty
is_empty Empty is = refl
is_empty (NonEmpty v) is = absurd (cc)

opened : (u : Sketch (TupleEntry ℕ)) (w : Retained (Fold (TupleEntry ℕ))) → unmarked_value u ≡ NonEmpty w → (v : Retained (TupleEntry ℕ)) × (u ≡ NonEmpty v) × (unmarked v ≡ w)
opened Empty w is = absurd (cc)
opened (NonEmpty v) w is = (v, refl, injected (unmarked v) w is)

module _ (mode : SummaryMode) (hashing : Hashing) (amount : List ℕ → ℕ) where
  -- the hash of lines with the sum of what its lines add, and all such folds of lines: none is a mark, however large its sum
  abbrev fold_of : (lines : List (List ℕ)) → (h : ℕ) → Fold (TupleEntry ℕ)
  fold_of lines h = Value (tuple_of h (summary_at mode hashing amount lines h))

  abbrev sum_map : (lines : List (List ℕ)) → List (Fold (TupleEntry ℕ))
  sum_map lines = map (fold_of lines) (key_set hashing lines)

  up_set : (lines : List (List ℕ)) → IsAscending hash_key (key_set hashing lines)
  up_set lines = ascending-set_of (line_hashes hashing lines)

  up_sums : (lines : List (List ℕ)) → IsAscending (fold_key tuple_key) (sum_map lines)
  up_sums lines = ascending-from_map (fold_key tuple_key) (sum_map lines) (subst (IsAscending hash_key) (sym (map_self (fold_of lines) (fold_key tuple_key) (λ h. refl) (key_set hashing lines))) (up_set lines))

  -- ---- the value of lines is a sample of their folds, and its theta is lawful

  module _ (lg_k : ℕ) where
    below_sums : (lines : List (List ℕ)) (hashes : List ℕ) (theta : ℕ) → hashes ≡ below hash_key (key_set hashing lines) theta →
        map Value (map (λ h. tuple_of h (summary_at mode hashing amount lines h)) hashes) ≡ below (fold_key tuple_key) (sum_map lines) theta
    below_sums lines hashes theta is =
        map_again (λ h. tuple_of h (summary_at mode hashing amount lines h)) Value hashes ∙ ap (map (fold_of lines)) is ∙ sym (below-map (fold_of lines) hash_key (fold_key tuple_key) (λ h. refl) (key_set hashing lines) theta)

    sum_sample : (lines : List (List ℕ)) → IsSample (fold_key tuple_key) (unmarked_value (sums_of_lines mode hashing amount lg_k lines)) (sum_map lines)
    sum_sample [] = record {
      ascending = up_sums [];
      carried = each_made (fold_of []) (fold_key tuple_key) (λ h. h < MAX_THETA) (λ h. refl) (key_set hashing []) (carried-set_of []);
      all_below = ap (map (fold_of [])) none-set_of;
    }
    sum_sample (line ∷ lines) =
        let s = (part_of hashing lg_k (line ∷ lines)).sample in record {
          ascending = up_sums (line ∷ lines);
          carried = each_made (fold_of (line ∷ lines)) (fold_key tuple_key) (λ h. h < MAX_THETA) (λ h. refl) (key_set hashing (line ∷ lines)) s.carried;
          all_below = below_sums (line ∷ lines) (kmin (2 ^ lg_k) (key_set hashing (line ∷ lines)) MAX_THETA).entries (kmin (2 ^ lg_k) (key_set hashing (line ∷ lines)) MAX_THETA).theta s.all_below;
        }

    lawful_sums : (lines : List (List ℕ)) (theta : ℕ) → IsLawful hash_key (key_set hashing lines) (2 ^ lg_k) MAX_THETA theta → IsLawful (fold_key tuple_key) (sum_map lines) (2 ^ lg_k) MAX_THETA theta
    lawful_sums lines theta (inl e) = inl e
    lawful_sums lines theta (inr low) = inr (record {
      below_start = low.below_start;
      is_key = subst (λ (o : Option (Fold (TupleEntry ℕ))). IsSome o) (sym (entry_at-map (fold_of lines) hash_key (fold_key tuple_key) (λ h. refl) (key_set hashing lines) theta)) (some_mapped (fold_of lines) (entry_at hash_key (key_set hashing lines) theta) low.is_key);
      ranked = omega (arith, low.ranked, rank-map (fold_of lines) hash_key (fold_key tuple_key) (λ h. refl) (key_set hashing lines) theta);
    })

    sum_lawful : (lines : List (List ℕ)) → IsLawfulValue (fold_key tuple_key) (2 ^ lg_k) MAX_THETA (unmarked_value (sums_of_lines mode hashing amount lg_k lines)) (sum_map lines)
    sum_lawful [] = tt
    sum_lawful (line ∷ lines) = lawful_sums (line ∷ lines) (kmin (2 ^ lg_k) (key_set hashing (line ∷ lines)) MAX_THETA).theta (part_of hashing lg_k (line ∷ lines)).lawful

  -- ---- the folds of parts, joined

  -- what is in the folds of lines at a hash
  no_sum : (lines : List (List ℕ)) (q : ℕ) → entry_at hash_key (key_set hashing lines) q ≡ None → is_carried q ≡ true → (some : List (List ℕ)) → ((line : List ℕ) → IsAmong line some → IsAmong line lines) → summary_at mode hashing amount some q ≡ first_number mode
  no_sum lines q none carried [] within = refl
  no_sum lines q none carried (line ∷ some) within =
      let later : summary_at mode hashing amount some q ≡ first_number mode = no_sum lines q none carried some (λ other among. within other (inr among)) in
      (elim (eqb (line_hash hashing line) q) as (λ b. eqb (line_hash hashing line) q ≡ b → cond b (merged_number mode (amount line) (summary_at mode hashing amount some q)) (summary_at mode hashing amount some q) ≡ first_number mode) [
        | true ↦ λ e.
            let same : line_hash hashing line ≡ q = grind (arith, nat_tests) in
            let there : entry_at hash_key (key_set hashing lines) (line_hash hashing line) ≡ Some (line_hash hashing line) =
            is_found hashing lines line (within line (inl refl)) (subst (λ (h : ℕ). is_carried h ≡ true) (sym same) carried) in
            let found : entry_at hash_key (key_set hashing lines) q ≡ Some q = subst (λ (h : ℕ). entry_at hash_key (key_set hashing lines) h ≡ Some h) same there in
            absurd (cc)
        | false ↦ λ e. later
      ]) refl

  matches_part : (lines : List (List ℕ)) (q : ℕ) → Matches mode q (entry_at (fold_key tuple_key) (sum_map lines) q) (entry_at hash_key (key_set hashing lines) q) (summary_at mode hashing amount lines q)
  matches_part lines q =
      subst (λ (o : Option (Fold (TupleEntry ℕ))). Matches mode q o (entry_at hash_key (key_set hashing lines) q) (summary_at mode hashing amount lines q)) (sym (entry_at-map (fold_of lines) hash_key (fold_key tuple_key) (λ h. refl) (key_set hashing lines) q))
      ((elim (entry_at hash_key (key_set hashing lines) q) as (λ p. entry_at hash_key (key_set hashing lines) q ≡ p → Matches mode q (option_map (fold_of lines) p) p (summary_at mode hashing amount lines q)) [
        | Some h ↦ λ found. let same : h ≡ q = found_key hash_key (key_set hashing lines) q h found in (same, (same, λ c. ap (summary_at mode hashing amount lines) same))
        | None ↦ λ none. λ c. no_sum lines q none c lines (λ line among. among)
      ]) refl)

  -- parts joined to lines before them
  matches_parts : (parts : List (List (List ℕ))) (folds : List (Fold (TupleEntry ℕ))) (set : List ℕ) (n q : ℕ) → IsKept mode n → Matches mode q (entry_at (fold_key tuple_key) folds q) (entry_at hash_key set q) n →
      Matches mode q (entry_at (fold_key tuple_key) (joined_all (fold_key tuple_key) (merge_folds mode) folds (map sum_map parts)) q) (entry_at hash_key (joined_all hash_key first_hash set (map (key_set hashing) parts)) q) (merged_number mode n (summary_at mode hashing amount (all_lines hashing parts) q))
  matches_parts [] folds set n q kept is =
      let same : n ≡ merged_number mode n (summary_at mode hashing amount (all_lines hashing []) q) = sym kept in
      subst (λ (m : ℕ). Matches mode q (entry_at (fold_key tuple_key) folds q) (entry_at hash_key set q) m) same is
  matches_parts (part ∷ parts) folds set n q kept is =
      let here : Matches mode q (entry_at (fold_key tuple_key) (joined (fold_key tuple_key) (merge_folds mode) folds (sum_map part)) q) (entry_at hash_key (joined hash_key first_hash set (key_set hashing part)) q) (merged_number mode n (summary_at mode hashing amount part q)) =
      subst (λ (o : Option (Fold (TupleEntry ℕ))). Matches mode q o (entry_at hash_key (joined hash_key first_hash set (key_set hashing part)) q) (merged_number mode n (summary_at mode hashing amount part q))) (sym (entry_at-joined (fold_key tuple_key) (merge_folds mode) (merge_keeps mode) (sum_map part) folds q (ascending-apart (fold_key tuple_key) (sum_map part) (up_sums part))))
      (subst (λ (p : Option ℕ). Matches mode q (either (merge_folds mode) (entry_at (fold_key tuple_key) folds q) (entry_at (fold_key tuple_key) (sum_map part) q)) p (merged_number mode n (summary_at mode hashing amount part q))) (sym (entry_at-joined hash_key first_hash (λ x y same. same) (key_set hashing part) set q (ascending-apart hash_key (key_set hashing part) (up_set part))))
      (matches_both mode q n (summary_at mode hashing amount part q) (entry_at (fold_key tuple_key) folds q) (entry_at (fold_key tuple_key) (sum_map part) q) (entry_at hash_key set q) (entry_at hash_key (key_set hashing part) q) kept (summary_kept mode hashing amount part q) is (matches_part part q))) in
      let same : merged_number mode (merged_number mode n (summary_at mode hashing amount part q)) (summary_at mode hashing amount (all_lines hashing parts) q) ≡ merged_number mode n (summary_at mode hashing amount (all_lines hashing (part ∷ parts)) q) =
      merged_associates mode n (summary_at mode hashing amount part q) (summary_at mode hashing amount (all_lines hashing parts) q) ∙ ap (merged_number mode n) (summary_append mode hashing amount part (all_lines hashing parts) q) in
      subst (λ (m : ℕ). Matches mode q (entry_at (fold_key tuple_key) (joined_all (fold_key tuple_key) (merge_folds mode) folds (map sum_map (part ∷ parts))) q) (entry_at hash_key (joined_all hash_key first_hash set (map (key_set hashing) (part ∷ parts))) q) m)
      same
      (matches_parts parts (joined (fold_key tuple_key) (merge_folds mode) folds (sum_map part)) (joined hash_key first_hash set (key_set hashing part)) (merged_number mode n (summary_at mode hashing amount part q)) q (kept_merged mode n (summary_at mode hashing amount part q) (summary_kept mode hashing amount part q)) here)

  module _ (parts : List (List (List ℕ))) where
    abbrev joined_folds : List (Fold (TupleEntry ℕ))
    joined_folds = joined_all (fold_key tuple_key) (merge_folds mode) [] (map sum_map parts)

    abbrev whole_lines : List (List ℕ)
    whole_lines = all_lines hashing parts

    matches_whole : (q : ℕ) → Matches mode q (entry_at (fold_key tuple_key) joined_folds q) (entry_at hash_key (key_set hashing whole_lines) q) (summary_at mode hashing amount whole_lines q)
    matches_whole q =
        let n : ℕ = summary_at mode hashing amount whole_lines q in
        let same : merged_number mode (first_number mode) n ≡ n = merged_commutes mode (first_number mode) n ∙ summary_kept mode hashing amount whole_lines q in
        subst (λ (n : ℕ). Matches mode q (entry_at (fold_key tuple_key) joined_folds q) (entry_at hash_key (key_set hashing whole_lines) q) n) same
        (subst (λ (set : List ℕ). Matches mode q (entry_at (fold_key tuple_key) joined_folds q) (entry_at hash_key set q) (merged_number mode (first_number mode) n)) (parts_joined hashing parts)
        (matches_parts parts [] [] (first_number mode) q (merged_repeats mode) (λ c. refl)))

    up_joined : IsAscending (fold_key tuple_key) joined_folds
    up_joined = ascending-joined_all (fold_key tuple_key) (merge_folds mode) (merge_keeps mode) (map sum_map parts) [] (ascending-nil (fold_key tuple_key))

    keys_joined : map (fold_key tuple_key) joined_folds ≡ key_set hashing whole_lines
    keys_joined =
        same_map hash_key (map (fold_key tuple_key) joined_folds) (key_set hashing whole_lines) (ascending-map (fold_key tuple_key) joined_folds up_joined) (up_set whole_lines)
        (λ q. entry_at-map (fold_key tuple_key) (fold_key tuple_key) hash_key (λ f. refl) joined_folds q
        ∙ key_matches mode q (summary_at mode hashing amount whole_lines q) (entry_at (fold_key tuple_key) joined_folds q) (entry_at hash_key (key_set hashing whole_lines) q) (matches_whole q))

    carried_at : (q : ℕ) (x : Fold (TupleEntry ℕ)) → entry_at (fold_key tuple_key) joined_folds q ≡ Some x → is_carried q ≡ true
    carried_at q x found =
        let hashes : List ℕ = line_hashes hashing whole_lines in
        let there : entry_at hash_key (set_of hashes) q ≡ Some (fold_key tuple_key x) =
        sym (key_matches mode q (summary_at mode hashing amount whole_lines q) (entry_at (fold_key tuple_key) joined_folds q) (entry_at hash_key (set_of hashes) q) (matches_whole q)) ∙ ap (option_map (fold_key tuple_key)) found in
        (elim (is_carried q) as (λ b. cond b (entry_at hash_key hashes q) None ≡ Some (fold_key tuple_key x) → b ≡ true) [ true ↦ λ e. refl | false ↦ λ e. absurd (cc) ]) (sym (at-set_of hashes q) ∙ there)

    number_of : (q : ℕ) (x : Fold (TupleEntry ℕ)) → is_carried q ≡ true → HasSum q x (summary_at mode hashing amount whole_lines q) → HasNumber (summary_at mode hashing amount whole_lines) x
    number_of q (Value e) carried has = has.1 carried ∙ ap (summary_at mode hashing amount whole_lines) (sym has.0)
    number_of q (Refused h) carried has = tt

    each_joined : AllByRecursion (HasNumber (summary_at mode hashing amount whole_lines)) joined_folds
    each_joined =
        each_found (fold_key tuple_key) (HasNumber (summary_at mode hashing amount whole_lines)) joined_folds up_joined
        (λ q x found. number_of q x (carried_at q x found) (sum_matches mode q (summary_at mode hashing amount whole_lines q) (entry_at (fold_key tuple_key) joined_folds q) (entry_at hash_key (key_set hashing whole_lines) q) x (matches_whole q) found))

  -- ---- the union of values of parts

  module _ (lg_k : ℕ) where
    -- each value is that of its part, with at least 2^lg_k nominal entries
    abbrev pub AreValues : List (Sketch (TupleEntry ℕ)) → (parts : List (List (List ℕ))) → Type 0
    AreValues [] [] = ⊤
    AreValues (value ∷ values) (part ∷ parts) = ((own : ℕ) × (lg_k ≤ own) × (value ≡ sums_of_lines mode hashing amount own part)) × AreValues values parts
    AreValues [] (part ∷ parts) = ⊥
    AreValues (value ∷ values) [] = ⊥

    abbrev in_folds : List (Sketch (TupleEntry ℕ)) → List (Sketch (Fold (TupleEntry ℕ)))
    in_folds values = map (λ v. unmarked_value v) values

    are_parts : (values : List (Sketch (TupleEntry ℕ))) (parts : List (List (List ℕ))) → AreValues values parts → AreSamples (fold_key tuple_key) (in_folds values) (map sum_map parts) × AreLawful (fold_key tuple_key) (2 ^ lg_k) MAX_THETA (in_folds values) (map sum_map parts)
    are_parts [] [] are = (tt, tt)
    are_parts [] (part ∷ parts) are = absurd are
    are_parts (value ∷ values) [] are = absurd are
    are_parts (value ∷ values) (part ∷ parts) are =
        let sample = subst (λ v. IsSample (fold_key tuple_key) (unmarked_value v) (sum_map part)) (sym are.0.2) (sum_sample are.0.0 part) in
        let lawful = lawful_less (fold_key tuple_key) (2 ^ lg_k) (2 ^ are.0.0) MAX_THETA (unmarked_value value) (sum_map part) (pow_mono {i = lg_k} {j = are.0.0} are.0.1)
        (subst (λ v. IsLawfulValue (fold_key tuple_key) (2 ^ are.0.0) MAX_THETA (unmarked_value v) (sum_map part)) (sym are.0.2) (sum_lawful are.0.0 part)) in
        let rest = are_parts values parts are.1 in
        ((sample, rest.0), (lawful, rest.1))

    -- values are Empty exactly if there are no lines
    first_none : (own : ℕ) (part : List (List ℕ)) (values : List (Sketch (TupleEntry ℕ))) (rest : List (List ℕ)) → is_nil (nonempties (in_folds values)) ≡ is_nil rest → is_nil (nonempties (unmarked_value (sums_of_lines mode hashing amount own part) ∷ in_folds values)) ≡ is_nil (part ++ rest)
    first_none own [] values rest same = same
    first_none own (line ∷ lines) values rest same = refl

    none_same : (values : List (Sketch (TupleEntry ℕ))) (parts : List (List (List ℕ))) → AreValues values parts → is_nil (nonempties (in_folds values)) ≡ is_nil (all_lines hashing parts)
    none_same [] [] are = refl
    none_same [] (part ∷ parts) are = absurd are
    none_same (value ∷ values) [] are = absurd are
    none_same (value ∷ values) (part ∷ parts) are = ap (λ v. is_nil (nonempties (unmarked_value v ∷ in_folds values))) are.0.2 ∙ first_none are.0.0 part values (all_lines hashing parts) (none_same values parts are.1)

    -- the union of values of parts, if it has no mark, is the value of all their lines
    pub united_exact : (values : List (Sketch (TupleEntry ℕ))) (parts : List (List (List ℕ))) → AreValues values parts → (u : Sketch (TupleEntry ℕ)) →
        unmarked_value u ≡ unite (fold_key tuple_key) (merge_folds mode) (2 ^ lg_k) MAX_THETA (in_folds values) → u ≡ sums_of_lines mode hashing amount lg_k (all_lines hashing parts)
    united_exact values parts are u is = (elim (all_lines hashing parts) as (λ all. all_lines hashing parts ≡ all → u ≡ sums_of_lines mode hashing amount lg_k all) [
      | [] ↦ λ e. is_empty u (is ∙ ap (unite_nonempty (fold_key tuple_key) (merge_folds mode) (2 ^ lg_k) MAX_THETA) (nil_is (nonempties (in_folds values)) (none_same values parts are ∙ ap is_nil e)))
      | line ∷ lines ↦ λ e.
          let some : nonempties (in_folds values) ≡ [] → ⊥ = λ none. (let wrong : true ≡ false = ap is_nil (sym none) ∙ none_same values parts are ∙ ap is_nil e in cc) in
          let all = are_parts values parts are in
          let whole : unmarked_value u ≡ NonEmpty (cut (fold_key tuple_key) (2 ^ lg_k) (joined_folds parts) MAX_THETA) =
          is ∙ union_lawful (fold_key tuple_key) (merge_folds mode) (merge_keeps mode) (2 ^ lg_k) MAX_THETA MAX_THETA (in_folds values) (map sum_map parts) (omega arith) all.0 all.1 some in
          let kept = opened u (cut (fold_key tuple_key) (2 ^ lg_k) (joined_folds parts) MAX_THETA) whole in
          let exact = retained_numbers (summary_at mode hashing amount (all_lines hashing parts)) (key_set hashing (all_lines hashing parts)) (joined_folds parts) (keys_joined parts) (each_joined parts) (2 ^ lg_k) MAX_THETA kept.0 kept.2 in
          kept.1 ∙ ap (λ (v : Retained (TupleEntry ℕ)). NonEmpty v) exact
          ∙ ap (λ (ls : List (List ℕ)). NonEmpty (record { entries = map (λ h. tuple_of h (summary_at mode hashing amount ls h)) (kmin (2 ^ lg_k) (key_set hashing ls) MAX_THETA).entries; theta = (kmin (2 ^ lg_k) (key_set hashing ls) MAX_THETA).theta })) e
    ]) refl
