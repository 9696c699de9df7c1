-- Streams of numbers: what two streams give together is what both give in turn, and each summary is the sum, the least or
-- the greatest of the numbers of its hash.
use Rattle.std.proofs.Common.{◌≡◌, ℕ, ◌+◌, ◌^◌, min, max, Bool, true, false, cond, eqb, ltb, List, [], ◌∷◌, ◌++◌, map, Option, Some, None, inl, inr, refl, sym, ap, subst, ◌∙◌, arith, append-nil}
use Rattle.std.specs.Prelude.{◌||◌, is_none}
use Rattle.std.specs.List.{AllByRecursion}
use Rattle.std.specs.Bool.{⊤}
use Rattle.std.specs.Option.{option_map_or, option_and_then}
use Rattle.std.proofs.lemmas.Bool.{cases_lt}
use Rattle.std.proofs.lemmas.Bool.Decides.{nat_tests}
use Rattle.core_laws.specs.Cuts.{Retained, cut}
use Rattle.core_laws.specs.Entries.{is_carried, hash_key}
use Rattle.core_laws.specs.Folds.{Fold, Value, Refused, fold_key, fold_merges, unmarked}
use Rattle.core_laws.specs.Leaf.{kmin}
use Rattle.core_laws.specs.Maps.{IsAscending, entry_at}
use Rattle.core_laws.specs.Operators.{joined}
use Rattle.core_laws.proofs.cuts.WithinWholeMaps.{found_key}
use Rattle.core_laws.proofs.insertions.Unmarked.{fold_keeps}
use Rattle.core_laws.proofs.maps.Ascending.{ascending-head, ascending-tail, each-filter}
use Rattle.core_laws.proofs.maps.LookUps.{entry_at_head, entry_at_past, entry_at_rest, same_map}
use Rattle.core_laws.proofs.maps.MappedEntries.{cut-map}
use Rattle.core_laws.proofs.maps.MapsOfLists.{ascending-apart}
use Rattle.core_laws.proofs.operators.JoinedMaps.{either, ascending-joined, entry_at-joined}
use Rattle.core_policies.specs.Summaries.{after_values, combined, combined-keeps, combine_refused, fold_at, fold_of}
use Rattle.core_policies.specs.Sums.{unsigned_sum}
use Rattle.core_slots.specs.Entry.{tuple_key, tuple_of, with_summary}
use Rattle.core_slots.specs.declared.entry.TupleEntry.{TupleEntry}
use Rattle.core_streams.specs.HashSets.{set_of}
use Rattle.tuple_sketches.specs.Given.{Given, has_any, given_values, hashes_of, united}
use Rattle.tuple_sketches.specs.Numbers.{first_number, merged_number, combined_number, given_numbers, number_at, least_numbers}
use Rattle.tuple_sketches.specs.Sums.{given_sums, least_sums}
use Rattle.tuple_sketches.specs.declared.numbers.SummaryMode.{SummaryMode}
use Rattle.tuple_sketches.specs.declared.numbers.SummaryMode.TheVariants.{Sum, Min, Max}
use Rattle.tuple_sketches.proofs.GivenValues.{values_of, values_of-append, ascending-values, at-values, keys-values}

-- under a policy that combines a first summary with values, and summaries with one another, by one associative and
-- commutative rule, which keeps the first summary with itself
module _ {S : Type 0} (first : S) (combines : S → S → Option S) where
  -- two summaries in one, if no rule refused before
  abbrev both : Option S → Option S → Option S
  both o p = option_and_then (λ s. option_and_then (λ u. combines s u) p) o

  abbrev IsAssociative : Type 0
  IsAssociative = (x y z : S) → option_and_then (λ s. combines s z) (combines x y) ≡ option_and_then (λ s. combines x s) (combines y z)

  abbrev IsCommutative : Type 0
  IsCommutative = (x y : S) → combines x y ≡ combines y x

  module _ (associates : IsAssociative) (commutes : IsCommutative) (repeats : combines first first ≡ Some first) where
    both_none : (o : Option S) → both o None ≡ None
    both_none None = refl
    both_none (Some x) = refl

    some_associates : (x y z : S) → both (combines x y) (Some z) ≡ both (Some x) (combines y z)
    some_associates x y z = associates x y z

    both_associates : (o p q : Option S) → both (both o p) q ≡ both o (both p q)
    both_associates None p q = refl
    both_associates (Some x) None q = refl
    both_associates (Some x) (Some y) None = both_none (combines x y)
    both_associates (Some x) (Some y) (Some z) = associates x y z

    both_commutes : (o p : Option S) → both o p ≡ both p o
    both_commutes None p = sym (both_none p)
    both_commutes (Some x) None = refl
    both_commutes (Some x) (Some y) = commutes x y

    after-append : (us vs : List S) (o : Option S) → after_values combines o (us ++ vs) ≡ after_values combines (after_values combines o us) vs
    after-append [] vs o = refl
    after-append (u ∷ us) vs o = after-append us vs (both o (Some u))

    both_after : (us : List S) (o p : Option S) → both o (after_values combines p us) ≡ after_values combines (both o p) us
    both_after [] o p = refl
    both_after (u ∷ us) o p = both_after us o (both p (Some u)) ∙ ap (λ q. after_values combines q us) (sym (both_associates o p (Some u)))

    -- the first summary changes none that came from it
    keeps_first : (us : List S) (o : Option S) → both o (Some first) ≡ o → both (after_values combines o us) (Some first) ≡ after_values combines o us
    keeps_first [] o keeps = keeps
    keeps_first (u ∷ us) o keeps =
        let kept : both (both o (Some u)) (Some first) ≡ both o (Some u) =
        both_associates o (Some u) (Some first) ∙ ap (both o) (both_commutes (Some u) (Some first)) ∙ sym (both_associates o (Some first) (Some u)) ∙ ap (λ q. both q (Some u)) keeps in
        keeps_first us (both o (Some u)) kept

    both_values : (us vs : List S) → both (after_values combines (Some first) us) (after_values combines (Some first) vs) ≡ after_values combines (Some first) (us ++ vs)
    both_values us vs =
        both_after vs (after_values combines (Some first) us) (Some first)
        ∙ ap (λ q. after_values combines q vs) (keeps_first us (Some first) repeats)
        ∙ sym (after-append us vs (Some first))

    abbrev merges : Fold (TupleEntry S) → Fold (TupleEntry S) → Fold (TupleEntry S)
    merges = fold_merges tuple_key (combined combines) (combine_refused combines)

    keep-keys : (x y : Fold (TupleEntry S)) → fold_key tuple_key x ≡ fold_key tuple_key y → fold_key tuple_key (merges x y) ≡ fold_key tuple_key y
    keep-keys = fold_keeps tuple_key (combined combines) (combine_refused combines) (combined-keeps combines)

    -- the folds of two summaries, merged
    two_folds : (h : ℕ) (o p : Option S) → merges (fold_of h o) (fold_of h p) ≡ fold_of h (both o p)
    two_folds h None p = refl
    two_folds h (Some x) None = refl
    two_folds h (Some x) (Some y) =
        elim (combines x y) as (λ q. cond (is_none q) (Refused h) (Value (option_map_or (with_summary (tuple_of h x)) q (tuple_of h x))) ≡ fold_of h q) [
          | None ↦ refl
          | Some z ↦ refl
        ]

    both_folds : (h : ℕ) (us vs : List S) → either merges (fold_at (Some first) combines h us) (fold_at (Some first) combines h vs) ≡ fold_at (Some first) combines h (us ++ vs)
    both_folds h us [] = ap (fold_at (Some first) combines h) (sym (append-nil us))
    both_folds h [] (v ∷ vs) = refl
    both_folds h (u ∷ us) (v ∷ vs) =
        ap Some (two_folds h (after_values combines (Some first) (u ∷ us)) (after_values combines (Some first) (v ∷ vs)))
        ∙ ap (λ o. Some (fold_of h o)) (both_values (u ∷ us) (v ∷ vs))

    either_carried : (b : Bool) (o p q : Option (Fold (TupleEntry S))) → either merges o p ≡ q → either merges (cond b o None) (cond b p None) ≡ cond b q None
    either_carried true o p q e = e
    either_carried false o p q e = refl

    any-append : (xs ys : List (ℕ × S)) → (has_any xs || has_any ys) ≡ has_any (xs ++ ys)
    any-append [] ys = refl
    any-append (x ∷ xs) ys = refl

    abbrev given_of : List (ℕ × S) → Given S
    given_of stream = given_values (Some first) combines stream

    any-united : (xs ys : List (ℕ × S)) → ((given_of xs).any || (given_of ys).any) ≡ (given_of (xs ++ ys)).any
    unfolding given_values
    any-united xs ys = any-append xs ys

    same_given : (g h : Given S) → g.whole ≡ h.whole → g.any ≡ h.any → g ≡ h
    same_given g h whole any = λ i. record { whole = whole i; any = any i }

    abbrev fold_in : List (ℕ × S) → ℕ → Option (Fold (TupleEntry S))
    fold_in stream q = fold_at (Some first) combines q (values_of q stream)

    -- what two streams give together is what one gives after the other
    pub values_united : (xs ys : List (ℕ × S)) → united combines (given_of xs) (given_of ys) ≡ given_of (xs ++ ys)
    values_united xs ys =
        let whole : joined (fold_key tuple_key) merges (given_of xs).whole (given_of ys).whole ≡ (given_of (xs ++ ys)).whole =
        same_map (fold_key tuple_key) _ _ (ascending-joined (fold_key tuple_key) merges keep-keys (given_of ys).whole (given_of xs).whole (ascending-values (Some first) combines xs)) (ascending-values (Some first) combines (xs ++ ys))
        (λ q.
        entry_at-joined (fold_key tuple_key) merges keep-keys (given_of ys).whole (given_of xs).whole q (ascending-apart (fold_key tuple_key) (given_of ys).whole (ascending-values (Some first) combines ys))
        ∙ ap (λ o. either merges o (entry_at (fold_key tuple_key) (given_of ys).whole q)) (at-values (Some first) combines xs q)
        ∙ ap (λ p. either merges (cond (is_carried q) (fold_in xs q) None) p) (at-values (Some first) combines ys q)
        ∙ either_carried (is_carried q) (fold_in xs q) (fold_in ys q) (fold_in (xs ++ ys) q) (both_folds q (values_of q xs) (values_of q ys) ∙ ap (fold_at (Some first) combines q) (sym (values_of-append q xs ys)))
        ∙ sym (at-values (Some first) combines (xs ++ ys) q)) in
        same_given _ _ whole (any-united xs ys)

-- a number without a bound: the rule that names the combined number, unless it is refused
abbrev Names : SummaryMode → ℕ → ℕ → Option ℕ → Type 0
Names mode x y None = ⊤
Names mode x y (Some z) = z ≡ merged_number mode x y

sum_named : (x y : ℕ) → Names Sum x y (unsigned_sum 64 x y)
sum_named x y =
    elim (ltb (x + y) (2 ^ 64)) as (λ b. Names Sum x y (cond b (Some (x + y)) None)) [
      | true ↦ refl
      | false ↦ tt
    ]

named : (mode : SummaryMode) (x y : ℕ) → Names mode x y (combined_number mode x y)
named Sum x y = sum_named x y
named Min x y = refl
named Max x y = refl

sums_associate : (x y z : ℕ) → option_and_then (λ s. unsigned_sum 64 s z) (unsigned_sum 64 x y) ≡ option_and_then (λ s. unsigned_sum 64 x s) (unsigned_sum 64 y z)
sums_associate x y z =
    let same : x + y + z ≡ x + (y + z) = omega arith in
    elim (cases_lt (x + y) (2 ^ 64)) [
      | inr past ↦
          let no : ltb (x + y) (2 ^ 64) ≡ false = grind (arith, nat_tests) in
          let none : ltb (x + (y + z)) (2 ^ 64) ≡ false = grind (arith, nat_tests) in
          rw no (elim (ltb (y + z) (2 ^ 64)) as (λ b. None ≡ option_and_then (λ s. unsigned_sum 64 x s) (cond b (Some (y + z)) None)) [
            | true ↦ sym (ap (λ b. cond b (Some (x + (y + z))) None) none)
            | false ↦ refl
          ])
      | inl low ↦
          let yes : ltb (x + y) (2 ^ 64) ≡ true = grind (arith, nat_tests) in
          elim (cases_lt (y + z) (2 ^ 64)) [
            | inl lower ↦
                let also : ltb (y + z) (2 ^ 64) ≡ true = grind (arith, nat_tests) in
                rw (yes, also) (ap (λ (n : ℕ). cond (ltb n (2 ^ 64)) (Some n) None) same)
            | inr past ↦
                let no : ltb (y + z) (2 ^ 64) ≡ false = grind (arith, nat_tests) in
                let none : ltb (x + y + z) (2 ^ 64) ≡ false = grind (arith, nat_tests) in
                rw (yes, no, none) refl
          ]
    ]

associates : (mode : SummaryMode) (x y z : ℕ) → option_and_then (λ s. combined_number mode s z) (combined_number mode x y) ≡ option_and_then (λ s. combined_number mode x s) (combined_number mode y z)
associates Sum x y z = sums_associate x y z
associates Min x y z = let same : min (min x y) z ≡ min x (min y z) = omega arith in ap Some same
associates Max x y z = let same : max (max x y) z ≡ max x (max y z) = omega arith in ap Some same

commutes : (mode : SummaryMode) (x y : ℕ) → combined_number mode x y ≡ combined_number mode y x
commutes Sum x y = let same : x + y ≡ y + x = omega arith in ap (λ (n : ℕ). cond (ltb n (2 ^ 64)) (Some n) None) same
commutes Min x y = let same : min x y ≡ min y x = omega arith in ap Some same
commutes Max x y = let same : max x y ≡ max y x = omega arith in ap Some same

repeats : (mode : SummaryMode) → combined_number mode (first_number mode) (first_number mode) ≡ Some (first_number mode)
repeats Sum = refl
repeats Min = refl
repeats Max = refl

-- what two streams give together is what one gives after the other
pub numbers_united : (mode : SummaryMode) (xs ys : List (ℕ × ℕ)) → united (combined_number mode) (given_numbers mode xs) (given_numbers mode ys) ≡ given_numbers mode (xs ++ ys)
numbers_united mode xs ys = values_united (first_number mode) (combined_number mode) (associates mode) (commutes mode) (repeats mode) xs ys

pub sums_united : (xs ys : List (ℕ × ℕ)) → united (unsigned_sum 64) (given_sums xs) (given_sums ys) ≡ given_sums (xs ++ ys)
sums_united = numbers_united Sum

-- numbers without a bound, merged
merged_associates : (mode : SummaryMode) (x y z : ℕ) → merged_number mode (merged_number mode x y) z ≡ merged_number mode x (merged_number mode y z)
merged_associates Sum x y z = omega arith
merged_associates Min x y z = omega arith
merged_associates Max x y z = omega arith

merged_commutes : (mode : SummaryMode) (x y : ℕ) → merged_number mode x y ≡ merged_number mode y x
merged_commutes Sum x y = omega arith
merged_commutes Min x y = omega arith
merged_commutes Max x y = omega arith

merged_repeats : (mode : SummaryMode) → merged_number mode (first_number mode) (first_number mode) ≡ first_number mode
merged_repeats Sum = refl
merged_repeats Min = refl
merged_repeats Max = refl

module _ (mode : SummaryMode) where
  abbrev total : List ℕ → ℕ
  total [] = first_number mode
  total (u ∷ us) = merged_number mode u (total us)

  swapped : (x y z : ℕ) → merged_number mode x (merged_number mode y z) ≡ merged_number mode y (merged_number mode x z)
  swapped x y z = sym (merged_associates mode x y z) ∙ ap (λ (n : ℕ). merged_number mode n z) (merged_commutes mode x y) ∙ merged_associates mode y x z

  total-first : (us : List ℕ) → merged_number mode (first_number mode) (total us) ≡ total us
  total-first [] = merged_repeats mode
  total-first (u ∷ us) = swapped (first_number mode) u (total us) ∙ ap (merged_number mode u) (total-first us)

  after_none : (us : List ℕ) → after_values (combined_number mode) None us ≡ None
  after_none [] = refl
  after_none (u ∷ us) = after_none us

  -- a summary after numbers in their order, if none was refused
  after_total : (us : List ℕ) (s n : ℕ) → merged_number mode s (first_number mode) ≡ s → after_values (combined_number mode) (Some s) us ≡ Some n → n ≡ merged_number mode s (total us)
  after_total [] s n keeps found = let same : s ≡ n = cc in sym same ∙ sym keeps
  after_total (u ∷ us) s n keeps found =
      (elim (combined_number mode s u) as (λ o. Names mode s u o → after_values (combined_number mode) o us ≡ Some n → n ≡ merged_number mode s (total (u ∷ us))) [
        | None ↦ λ is f. absurd (let none = after_none us in cc)
        | Some m ↦ λ is f.
            let step : merged_number mode m (first_number mode) ≡ m =
            ap (λ (x : ℕ). merged_number mode x (first_number mode)) is ∙ merged_associates mode s u (first_number mode) ∙ swapped s u (first_number mode) ∙ ap (merged_number mode u) keeps ∙ merged_commutes mode u s ∙ sym is in
            after_total us m n step f ∙ ap (λ (x : ℕ). merged_number mode x (total us)) is ∙ merged_associates mode s u (total us)
      ]) (named mode s u) found

  value_total : (us : List ℕ) (n : ℕ) → after_values (combined_number mode) (Some (first_number mode)) us ≡ Some n → n ≡ total us
  value_total us n found = after_total us (first_number mode) n (merged_repeats mode) found ∙ total-first us

  total_at : (stream : List (ℕ × ℕ)) (h : ℕ) → total (values_of h stream) ≡ number_at mode stream h
  total_at [] h = refl
  total_at (p ∷ stream) h =
      elim (eqb p.0 h) as (λ b. total (cond b (p.1 ∷ values_of h stream) (values_of h stream)) ≡ cond b (merged_number mode p.1 (number_at mode stream h)) (number_at mode stream h)) [
        | true ↦ ap (merged_number mode p.1) (total_at stream h)
        | false ↦ total_at stream h
      ]

  value-of : (h : ℕ) (o : Option ℕ) (e : TupleEntry ℕ) → Some (fold_of h o) ≡ Some (Value e) → o ≡ Some e.summary
  value-of h None e found = absurd (cc)
  value-of h (Some s) e found = let same : tuple_of h s ≡ e = cc in ap (λ (x : TupleEntry ℕ). Some x.summary) same

  value-is : (h : ℕ) (us : List ℕ) (e : TupleEntry ℕ) → fold_at (Some (first_number mode)) (combined_number mode) h us ≡ Some (Value e) → e.summary ≡ total us
  value-is h [] e found = absurd (cc)
  value-is h (u ∷ us) e found = value_total (u ∷ us) e.summary (value-of h (after_values (combined_number mode) (Some (first_number mode)) (u ∷ us)) e found)

  pub summary_at : (stream : List (ℕ × ℕ)) (q : ℕ) (e : TupleEntry ℕ) → entry_at (fold_key tuple_key) (given_numbers mode stream).whole q ≡ Some (Value e) → e.summary ≡ number_at mode stream q
  summary_at stream q e found =
      (elim (is_carried q) as (λ b. cond b (fold_at (Some (first_number mode)) (combined_number mode) q (values_of q stream)) None ≡ Some (Value e) → e.summary ≡ number_at mode stream q) [
        | true ↦ λ f. value-is q (values_of q stream) e f ∙ total_at stream q
        | false ↦ λ f. absurd (cc)
      ]) (sym (at-values (Some (first_number mode)) (combined_number mode) stream q) ∙ found)

-- what holds of each entry that is found at its key holds of all
pub each_found : {X : Type 0} (key : X → ℕ) (P : X → Type 0) (xs : List X) → IsAscending key xs → ((q : ℕ) (x : X) → entry_at key xs q ≡ Some x → P x) → AllByRecursion P xs
each_found key P [] up found = tt
each_found {X} key P (x ∷ xs) up found =
    let later : (q : ℕ) (y : X) → entry_at key xs q ≡ Some y → entry_at key (x ∷ xs) q ≡ Some y = λ q y e.
    (elim (eqb (key x) q) as (λ b. eqb (key x) q ≡ b → entry_at key (x ∷ xs) q ≡ Some y) [
      | true ↦ λ same.
          let is : key x ≡ q = grind (arith, nat_tests) in
          let none : entry_at key xs (key x) ≡ None = entry_at_past key xs (key x) (ascending-head key x xs up) in
          let some : entry_at key xs (key x) ≡ Some y = subst (λ (p : ℕ). entry_at key xs p ≡ Some y) (sym is) e in
          absurd (cc)
      | false ↦ λ other. let differs : key x ≡ q → ⊥ = grind (arith, nat_tests) in entry_at_rest key x xs q differs ∙ e
    ]) refl in
    (found (key x) x (entry_at_head key x xs (key x) refl), each_found key P xs (ascending-tail key x xs up) (λ q y e. found q y (later q y e)))

-- an entry whose sum is the one of its hash
abbrev pub HasNumber : (ℕ → ℕ) → Fold (TupleEntry ℕ) → Type 0
HasNumber number_of (Value e) = e.summary ≡ number_of e.hash
HasNumber number_of (Refused h) = ⊤

-- such entries, by their keys
by_keys : (number_of : ℕ → ℕ) (xs : List (TupleEntry ℕ)) → AllByRecursion (HasNumber number_of) (map Value xs) → xs ≡ map (λ h. tuple_of h (number_of h)) (map tuple_key xs)
by_keys number_of [] all = refl
by_keys number_of (x ∷ xs) all =
    let one : x ≡ tuple_of x.hash (number_of x.hash) = ap (tuple_of x.hash) all.0 in
    ap (λ (e : TupleEntry ℕ). e ∷ xs) one ∙ ap (λ (ys : List (TupleEntry ℕ)). tuple_of x.hash (number_of x.hash) ∷ ys) (by_keys number_of xs all.1)

keys_unmarked : (xs : List (TupleEntry ℕ)) → map (fold_key tuple_key) (map Value xs) ≡ map tuple_key xs
keys_unmarked [] = refl
keys_unmarked (x ∷ xs) = ap (λ (hs : List ℕ). x.hash ∷ hs) (keys_unmarked xs)

cut_each : {X : Type 0} (key : X → ℕ) (P : X → Type 0) (k : ℕ) (xs : List X) (t : ℕ) → AllByRecursion P xs → AllByRecursion P (cut key k xs t).entries
unfolding cut
cut_each key P k xs t all = each-filter P _ xs all

-- what is retained without a mark of folds that have a set of keys, each with a number, if it has no mark
pub retained_numbers : (number_of : ℕ → ℕ) (hashes : List ℕ) (folds : List (Fold (TupleEntry ℕ))) → map (fold_key tuple_key) folds ≡ hashes → AllByRecursion (HasNumber number_of) folds → (k start : ℕ) (v : Retained (TupleEntry ℕ)) → unmarked v ≡ cut (fold_key tuple_key) k folds start →
    v ≡ record { entries = map (λ h. tuple_of h (number_of h)) (kmin k hashes start).entries; theta = (kmin k hashes start).theta }
retained_numbers number_of hashes folds keys_are each k start v is =
    let keys : cut hash_key k hashes start ≡ record { entries = map (fold_key tuple_key) (cut (fold_key tuple_key) k folds start).entries; theta = (cut (fold_key tuple_key) k folds start).theta } =
    ap (λ (hs : List ℕ). cut hash_key k hs start) (sym keys_are) ∙ cut-map (fold_key tuple_key) (fold_key tuple_key) hash_key (λ f. refl) k folds start in
    let kept : map tuple_key v.entries ≡ (kmin k hashes start).entries =
    sym (keys_unmarked v.entries) ∙ ap (λ (r : Retained (Fold (TupleEntry ℕ))). map (fold_key tuple_key) r.entries) is ∙ ap (λ (r : Retained ℕ). r.entries) (sym keys) in
    let all : AllByRecursion (HasNumber number_of) (map Value v.entries) =
    subst (λ (r : Retained (Fold (TupleEntry ℕ))). AllByRecursion (HasNumber number_of) r.entries) (sym is) (cut_each (fold_key tuple_key) (HasNumber number_of) k folds start each) in
    let entries : v.entries ≡ map (λ h. tuple_of h (number_of h)) (kmin k hashes start).entries = by_keys number_of v.entries all ∙ ap (map (λ h. tuple_of h (number_of h))) kept in
    let theta : v.theta ≡ (kmin k hashes start).theta = ap (λ (r : Retained (Fold (TupleEntry ℕ))). r.theta) is ∙ ap (λ (r : Retained ℕ). r.theta) (sym keys) in
    λ i. record { entries = entries i; theta = theta i }

-- each summary is the number of its hash
each_number : (mode : SummaryMode) (stream : List (ℕ × ℕ)) → AllByRecursion (HasNumber (number_at mode stream)) (given_numbers mode stream).whole
each_number mode stream =
    each_found (fold_key tuple_key) (HasNumber (number_at mode stream)) (given_numbers mode stream).whole (ascending-values (Some (first_number mode)) (combined_number mode) stream)
    (λ q f. elim f as (λ g. entry_at (fold_key tuple_key) (given_numbers mode stream).whole q ≡ Some g → HasNumber (number_at mode stream) g) [
      | Value e ↦ λ found. let same : e.hash ≡ q = found_key (fold_key tuple_key) (given_numbers mode stream).whole q (Value e) found in summary_at mode stream q e found ∙ ap (number_at mode stream) (sym same)
      | Refused h ↦ λ found. tt
    ])

-- what is retained without a mark of the k least
pub numbers_retained : (mode : SummaryMode) (k start : ℕ) (stream : List (ℕ × ℕ)) (v : Retained (TupleEntry ℕ)) → unmarked v ≡ cut (fold_key tuple_key) k (given_numbers mode stream).whole start → v ≡ least_numbers mode k stream start
numbers_retained mode k start stream v is =
    retained_numbers (number_at mode stream) (set_of (hashes_of stream)) (given_numbers mode stream).whole (keys-values (Some (first_number mode)) (combined_number mode) stream) (each_number mode stream) k start v is

pub sums_retained : (k start : ℕ) (stream : List (ℕ × ℕ)) (v : Retained (TupleEntry ℕ)) → unmarked v ≡ cut (fold_key tuple_key) k (given_sums stream).whole start → v ≡ least_sums k stream start
sums_retained = numbers_retained Sum
