-- Entries that are merged into a map range by range.
use Rattle.std.proofs.Common.{◌≡◌, ℕ, ◌<◌, ◌≤◌, ◌^◌, min, Bool, true, false, cond, leb, ltb, eqb, List, [], ◌∷◌, ◌++◌, map, flat_map, Option, Some, None, inl, inr, refl, sym, ap, ◌∙◌, subst, arith}
use Rattle.std.specs.List.{filter, AllByRecursion}
use Rattle.std.proofs.lemmas.Bool.{cases_lt}
use Rattle.std.proofs.lemmas.Bool.Decides.{nat_tests}
use Rattle.sketch_base.specs.declared.error.ErrorKind.{ErrorKind}
use Rattle.core_laws.specs.Maps.{IsAscending, below, entry_at}
use Rattle.core_laws.specs.Cuts.{Retained, retained, cut, IsRetained}
use Rattle.core_laws.specs.Lawful.{IsLawful, IsWithin}
use Rattle.core_laws.specs.Entries.{KeepsKey}
use Rattle.core_laws.specs.Shown.{Shown}
use Rattle.core_laws.specs.Step.{merge_step}
use Rattle.core_laws.specs.Insertion.{after_upserts}
use Rattle.core_laws.specs.Operators.{join, joined}
use Rattle.core_laws.specs.Folds.{Fold, Value, fold_key, fold_merges, unmarked, never}
use Rattle.core_laws.proofs.maps.Ascending.{each-filter, each-passes, each-append}
use Rattle.core_laws.proofs.maps.LookUps.{entry_at-below, entry_at-filter_in, entry_at-filter_out, same_map}
use Rattle.core_laws.proofs.maps.MapsOfLists.{each-from_map}
use Rattle.core_laws.proofs.maps.MappedEntries.{below-map, cut-map}
use Rattle.core_laws.proofs.cuts.Cuts.{below_all}
use Rattle.core_laws.proofs.cuts.WithinWholeMaps.{below-below, cut_below, within-cut, within-below}
use Rattle.core_laws.proofs.insertions.Merges.{within-joined}
use Rattle.core_laws.proofs.insertions.Unmarked.{fold_keeps, each-marked, ascending-marked}
use Rattle.core_laws.proofs.operators.JoinedMaps.{Extends, either, entry_at-join, ascending-joined, below-joined, joined-extends}
use Rattle.core_table.specs.HashTable.{MapTable, trimmed_table}
use Rattle.core_table.proofs.FilledTables.{made_with_next}
use Rattle.core_operators.specs.Union.{at_or_above, IsInput, HasMerged, HasMergedAll, IsArrivalRefused, IsRangeRefused, IsRangeRefusal, IsAllRefusal}

module _ {X : Type 0} where
  -- the entry at a key after entries, whose keys may repeat, were merged in turn
  abbrev pub merged_at : (X → ℕ) → (X → X → X) → ℕ → Option X → List X → Option X
  merged_at key merges q o [] = o
  merged_at key merges q o (x ∷ xs) = merged_at key merges q (cond (eqb (key x) q) (either merges o (Some x)) o) xs

  -- what is found under a test
  found_if : (b : Bool) (o : Option X) (x : X) → cond b o None ≡ Some x → (b ≡ true) × (o ≡ Some x)
  found_if true o x e = (refl, e)
  found_if false o x e = absurd (cc)

  each-front : (P : X → Type 0) (front rest : List X) → AllByRecursion P (front ++ rest) → AllByRecursion P front
  each-front P [] rest all = tt
  each-front P (x ∷ front) rest all = (all.0, each-front P front rest all.1)

module _ {X : Type 0} (key : X → ℕ) (merges : X → X → X) (q : ℕ) where
  -- the entry at q, after one entry more, and then others
  abbrev after_one : Option X → X → List X → Bool → Option X
  after_one o x xs b = merged_at key merges q (cond b (either merges o (Some x)) o) xs

  -- only the entries that have the key count
  merged-in : (p : X → Bool) (xs : List X) (o : Option X) → ((x : X) → key x ≡ q → p x ≡ true) →
      merged_at key merges q o (filter p xs) ≡ merged_at key merges q o xs
  merged-in p [] o passes = refl
  merged-in p (x ∷ xs) o passes =
      (elim (eqb (key x) q) as (λ b. eqb (key x) q ≡ b → merged_at key merges q o (cond (p x) (x ∷ filter p xs) (filter p xs)) ≡ after_one o x xs b) [
        | true ↦ λ e.
            rw (passes x (grind (arith, nat_tests)))
            (ap (after_one o x (filter p xs)) e ∙ merged-in p xs (either merges o (Some x)) passes)
        | false ↦ λ e.
            elim (p x) as (λ b. merged_at key merges q o (cond b (x ∷ filter p xs) (filter p xs)) ≡ merged_at key merges q o xs) [
              | true ↦ ap (after_one o x (filter p xs)) e ∙ merged-in p xs o passes
              | false ↦ merged-in p xs o passes
            ]
      ]) refl

  merged-out : (p : X → Bool) (xs : List X) (o : Option X) → ((x : X) → key x ≡ q → p x ≡ false) →
      merged_at key merges q o (filter p xs) ≡ o
  merged-out p [] o fails = refl
  merged-out p (x ∷ xs) o fails =
      (elim (eqb (key x) q) as (λ b. eqb (key x) q ≡ b → merged_at key merges q o (cond (p x) (x ∷ filter p xs) (filter p xs)) ≡ o) [
        | true ↦ λ e. rw (fails x (grind (arith, nat_tests))) (merged-out p xs o fails)
        | false ↦ λ e.
            elim (p x) as (λ b. merged_at key merges q o (cond b (x ∷ filter p xs) (filter p xs)) ≡ o) [
              | true ↦ ap (after_one o x (filter p xs)) e ∙ merged-out p xs o fails
              | false ↦ merged-out p xs o fails
            ]
      ]) refl

  low_in : (xs : List X) (t : ℕ) (o : Option X) → q < t →
      merged_at key merges q o (below key xs t) ≡ merged_at key merges q o xs
  low_in xs t o lt = merged-in (λ x. ltb (key x) t) xs o (λ x f. grind (arith, nat_tests))

  low_out : (xs : List X) (t : ℕ) (o : Option X) → t ≤ q → merged_at key merges q o (below key xs t) ≡ o
  low_out xs t o le = merged-out (λ x. ltb (key x) t) xs o (λ x f. grind (arith, nat_tests))

  high_in : (xs : List X) (t : ℕ) (o : Option X) → t ≤ q →
      merged_at key merges q o (at_or_above key xs t) ≡ merged_at key merges q o xs
  high_in xs t o le = merged-in (λ x. leb t (key x)) xs o (λ x f. grind (arith, nat_tests))

  high_out : (xs : List X) (t : ℕ) (o : Option X) → q < t → merged_at key merges q o (at_or_above key xs t) ≡ o
  high_out xs t o lt = merged-out (λ x. leb t (key x)) xs o (λ x f. grind (arith, nat_tests))

  -- the entries below a bound, then those of the next range
  range_at : (xs : List X) (from to : ℕ) (o : Option X) → from ≤ to →
      merged_at key merges q (merged_at key merges q o (below key xs from)) (below key (at_or_above key xs from) to)
      ≡ merged_at key merges q o (below key xs to)
  range_at xs from to o le =
      let first = merged_at key merges q o (below key xs from) in
      elim (cases_lt q from) [
        | inl lt ↦
            low_in (at_or_above key xs from) to first (omega (arith, lt, le)) ∙ high_out xs from first lt
            ∙ low_in xs from o lt ∙ sym (low_in xs to o (omega (arith, lt, le)))
        | inr ge ↦ elim (cases_lt q to) [
          | inl lt ↦
              low_in (at_or_above key xs from) to first lt ∙ high_in xs from first ge
              ∙ ap (λ p. merged_at key merges q p xs) (low_out xs from o ge) ∙ sym (low_in xs to o lt)
          | inr past ↦
              low_out (at_or_above key xs from) to first past ∙ low_out xs from o ge ∙ sym (low_out xs to o past)
        ]
      ]

  -- the entries below a bound, then all others
  rest_at : (xs : List X) (from : ℕ) (o : Option X) →
      merged_at key merges q (merged_at key merges q o (below key xs from)) (at_or_above key xs from)
      ≡ merged_at key merges q o xs
  rest_at xs from o =
      let first = merged_at key merges q o (below key xs from) in
      elim (cases_lt q from) [
        | inl lt ↦ high_out xs from first lt ∙ low_in xs from o lt
        | inr ge ↦ high_in xs from first ge ∙ ap (λ p. merged_at key merges q p xs) (low_out xs from o ge)
      ]

module _ {X : Type 0} (key : X → ℕ) where
  -- what is found from a hash on
  at_or_above_found : (xs : List X) (from q : ℕ) (x : X) → entry_at key (at_or_above key xs from) q ≡ Some x →
      (from ≤ q) × (entry_at key xs q ≡ Some x)
  at_or_above_found xs from q x found =
      elim (cases_lt q from) [
        | inl lt ↦
            let none : entry_at key (at_or_above key xs from) q ≡ None =
            entry_at-filter_out key (λ y. leb from (key y)) xs q (λ y f. grind (arith, nat_tests)) in
            absurd (cc)
        | inr le ↦
            let same = entry_at-filter_in key (λ y. leb from (key y)) xs q (λ y f. grind (arith, nat_tests)) in
            (le, sym same ∙ found)
      ]

  below_found : (xs : List X) (t q : ℕ) (x : X) → entry_at key (below key xs t) q ≡ Some x →
      (q < t) × (entry_at key xs q ≡ Some x)
  below_found xs t q x found =
      let parts = found_if (ltb q t) (entry_at key xs q) x (sym (entry_at-below key xs t q) ∙ found) in
      (grind (arith, nat_tests, parts.0), parts.1)

  -- a trim keeps what is within a whole map
  within-trimmed : (k start : ℕ) (v : Retained X) (whole : List X) → IsWithin key k start v whole →
      IsWithin key k start (cut key k v.entries v.theta) whole
  within-trimmed k start v whole within =
      rw (within.entries_are, cut_below key k whole v.theta within.ascending)
      (within-cut key k start v.theta whole within.ascending within.lawful)

  lawful-extends : (k start theta : ℕ) (xs ys : List X) → Extends key xs ys → IsLawful key xs k start theta →
      IsLawful key ys k start theta
  lawful-extends k start theta xs ys more (inl e) = inl e
  lawful-extends k start theta xs ys more (inr low) = inr (record {
    below_start = low.below_start;
    is_key = more.has theta low.is_key;
    ranked = omega (arith, low.ranked, more.ranks theta);
  })

module _ {X : Type 0} (key : X → ℕ) (merges : X → X → X) (keeps : KeepsKey key merges) where
  -- two lists one after the other
  pub joined-append : (xs ys whole : List X) →
      joined key merges whole (xs ++ ys) ≡ joined key merges (joined key merges whole xs) ys
  joined-append [] ys whole = refl
  joined-append (x ∷ xs) ys whole = joined-append xs ys (join key merges whole x)

  -- the entry at a key, whatever keys repeat
  pub entry_at-merged : (xs whole : List X) (q : ℕ) →
      entry_at key (joined key merges whole xs) q ≡ merged_at key merges q (entry_at key whole q) xs
  entry_at-merged [] whole q = refl
  entry_at-merged (x ∷ xs) whole q =
      entry_at-merged xs (join key merges whole x) q
      ∙ ap (λ o. merged_at key merges q o xs) (entry_at-join key merges keeps whole x q)

  -- two lists merged in turn, by the entry at a key
  merged_twice : (xs ys whole : List X) (q : ℕ) →
      entry_at key (joined key merges (joined key merges whole xs) ys) q
      ≡ merged_at key merges q (merged_at key merges q (entry_at key whole q) xs) ys
  merged_twice xs ys whole q =
      entry_at-merged ys (joined key merges whole xs) q
      ∙ ap (λ o. merged_at key merges q o ys) (entry_at-merged xs whole q)

  ascending_twice : (xs ys whole : List X) → IsAscending key whole →
      IsAscending key (joined key merges (joined key merges whole xs) ys)
  ascending_twice xs ys whole up =
      ascending-joined key merges keeps ys (joined key merges whole xs) (ascending-joined key merges keeps xs whole up)

  -- a range is merged after the entries below it
  joined-range : (whole xs : List X) (from to : ℕ) → IsAscending key whole → from ≤ to →
      joined key merges (joined key merges whole (below key xs from)) (below key (at_or_above key xs from) to)
      ≡ joined key merges whole (below key xs to)
  joined-range whole xs from to up le =
      let first = below key xs from in
      let range = below key (at_or_above key xs from) to in
      let lower = below key xs to in
      same_map key _ _ (ascending_twice first range whole up) (ascending-joined key merges keeps lower whole up)
      (λ q. merged_twice first range whole q ∙ range_at key merges q xs from to (entry_at key whole q) le ∙ sym (entry_at-merged lower whole q))

  joined-rest : (whole xs : List X) (from : ℕ) → IsAscending key whole →
      joined key merges (joined key merges whole (below key xs from)) (at_or_above key xs from)
      ≡ joined key merges whole xs
  joined-rest whole xs from up =
      let first = below key xs from in
      let rest = at_or_above key xs from in
      same_map key _ _ (ascending_twice first rest whole up) (ascending-joined key merges keeps xs whole up)
      (λ q. merged_twice first rest whole q ∙ rest_at key merges q xs from (entry_at key whole q) ∙ sym (entry_at-merged xs whole q))

  -- at a key of a range nothing was merged before it
  range_entry : (whole xs before : List X) (from to q : ℕ) → from ≤ q → q < to →
      entry_at key (joined key merges (joined key merges whole (below key xs from)) (below key (at_or_above key before from) to)) q
      ≡ entry_at key (joined key merges whole before) q
  range_entry whole xs before from to q le lt =
      let o = entry_at key whole q in
      let first = merged_at key merges q o (below key xs from) in
      merged_twice (below key xs from) (below key (at_or_above key before from) to) whole q
      ∙ low_in key merges q (at_or_above key before from) to first lt ∙ high_in key merges q before from first le
      ∙ ap (λ p. merged_at key merges q p before) (low_out key merges q xs from o le)
      ∙ sym (entry_at-merged before whole q)

  -- below a bound the entries below it decide
  early_entry : (whole xs : List X) (m q : ℕ) → q < m →
      entry_at key (joined key merges (below key whole m) (below key xs m)) q
      ≡ entry_at key (joined key merges whole xs) q
  early_entry whole xs m q lt =
      let e : ltb q m ≡ true = grind (arith, nat_tests) in
      ap (λ ys. entry_at key ys q) (sym (below-joined key merges keeps xs whole m))
      ∙ entry_at-below key (joined key merges whole xs) m q
      ∙ ap (λ b. cond b (entry_at key (joined key merges whole xs) q) None) e

  -- all below a bound was merged, and theta is within it: no more entries belong to the result
  within-all : (k start m far : ℕ) (v : Retained X) (whole xs : List X) → IsAscending key whole → m ≤ start →
      min m v.theta ≤ far → IsWithin key k start v (joined key merges whole (below key xs far)) →
      IsWithin key k m (retained key v.entries (min m v.theta)) (joined key merges (below key whole m) (below key xs m))
  within-all k start m far v whole xs up le reached within =
      let t : ℕ = min m v.theta in
      let part : List X = joined key merges whole (below key xs far) in
      let rest : List X = below key (at_or_above key xs far) m in
      let low = within-below key k start m v part le within in
      let more = joined-extends key merges keeps rest (below key part m) low.ascending in
      let all : joined key merges (below key part m) rest ≡ joined key merges (below key whole m) (below key xs m) =
      sym (below-joined key merges keeps (at_or_above key xs far) part m)
      ∙ ap (λ ys. below key ys m) (joined-rest whole xs far up) ∙ below-joined key merges keeps xs whole m in
      let early : below key part t ≡ below key (joined key merges whole xs) t =
      below-joined key merges keeps (below key xs far) whole t
      ∙ ap (λ ys. joined key merges (below key whole t) ys) (below-below key xs t far reached)
      ∙ sym (below-joined key merges keeps xs whole t) in
      rw (← all) (record {
        ascending = ascending-joined key merges keeps rest (below key part m) low.ascending;
        entries_are =
            low.entries_are ∙ below-below key part t m (omega arith) ∙ early
            ∙ sym (below-below key (joined key merges whole xs) t m (omega arith))
            ∙ ap (λ ys. below key ys t) (below-joined key merges keeps xs whole m ∙ sym all);
        lawful = lawful-extends key k m t _ _ more low.lawful;
      })

module _ {X : Type 0} (key : X → ℕ) where
  at_or_above-map : (xs : List X) (t : ℕ) → at_or_above (fold_key key) (map Value xs) t ≡ map Value (at_or_above key xs t)
  at_or_above-map [] t = refl
  at_or_above-map (x ∷ xs) t =
      let rest = at_or_above (fold_key key) (map Value xs) t in
      elim (leb t (key x)) as (λ b. cond b (Value x ∷ rest) rest ≡ map Value (cond b (x ∷ at_or_above key xs t) (at_or_above key xs t))) [
        | true ↦ ap (λ ys. Value x ∷ ys) (at_or_above-map xs t)
        | false ↦ at_or_above-map xs t
      ]

  below_marked : (xs : List X) (t : ℕ) → below (fold_key key) (map Value xs) t ≡ map Value (below key xs t)
  below_marked xs t = below-map Value key (fold_key key) (λ y. refl) xs t

  below_zero : (xs : List X) → below key xs 0 ≡ []
  below_zero [] = refl
  below_zero (x ∷ xs) = let e : ltb (key x) 0 ≡ false = grind (arith, nat_tests) in rw e (below_zero xs)

  -- a range of values as one of folds
  range_marked : (xs : List X) (from to : ℕ) →
      below (fold_key key) (at_or_above (fold_key key) (map Value xs) from) to ≡ map Value (below key (at_or_above key xs from) to)
  range_marked xs from to =
      ap (λ ys. below (fold_key key) ys to) (at_or_above-map xs from) ∙ below_marked (at_or_above key xs from) to

module _ {X : Type 0} (key : X → ℕ) (merges : X → X → X) (refuses : X → X → Bool) where
  -- entries merged into a map, in folds
  abbrev pub merged_folds : List (Fold X) → List X → List (Fold X)
  merged_folds whole xs = joined (fold_key key) (fold_merges key merges refuses) whole (map Value xs)

  -- a table keeps the settings of a first one, and is within the whole map of the first and all entries below a bound
  pub record HasMergedBelow (first now : MapTable X) (xs : List X) (from : ℕ) : Type 0 where
    pub made_with : now ≡ record first { kept = now.kept }
    pub whole :
        IsWithin (fold_key key) (2 ^ first.lg_nom) first.kept.theta (unmarked now.kept)
        (merged_folds (map Value first.kept.entries) (below key xs from))

  -- at the start nothing is merged
  pub merged-start : (first : MapTable X) (xs : List X) → IsRetained key first.kept → HasMergedBelow first first xs 0
  merged-start first xs good =
      let entries = first.kept.entries in
      let theta = first.kept.theta in
      let none : below key xs 0 ≡ [] = below_zero key xs in
      let all : below (fold_key key) (map Value entries) theta ≡ map Value entries =
      below_marked key entries theta ∙ ap (λ ys. map Value ys) (below_all key entries theta good.below_theta) in
      record {
        made_with = refl;
        whole = rw none (record {
          ascending = ascending-marked key entries good.ascending;
          entries_are = sym all;
          lawful = inl refl;
        });
      }

  -- a trim between two ranges
  pub merged-trimmed : (first was now : MapTable X) (xs : List X) (from : ℕ) → HasMergedBelow first was xs from →
      now ≡ trimmed_table key was → HasMergedBelow first now xs from
  merged-trimmed first was now xs from so_far trimmed =
      let k : ℕ = 2 ^ first.lg_nom in
      let fkey = fold_key key in
      let entries = was.kept.entries in
      let theta = was.kept.theta in
      let whole = merged_folds (map Value first.kept.entries) (below key xs from) in
      let lg : was.lg_nom ≡ first.lg_nom = ap (λ t. t.lg_nom) so_far.made_with in
      let kept_is : now.kept ≡ cut key k entries theta = rw (← lg) (ap (λ t. t.kept) trimmed) in
      let cut_is : cut fkey k (map Value entries) theta ≡ unmarked now.kept =
      cut-map Value key fkey (λ y. refl) k entries theta ∙ ap unmarked (sym kept_is) in
      record {
        made_with = made_with_next first was now _ so_far.made_with trimmed;
        whole =
            subst (λ v. IsWithin fkey k first.kept.theta v whole) cut_is
            (within-trimmed fkey k first.kept.theta (unmarked was.kept) whole so_far.whole);
      }

module _ {X : Type 0} (key : X → ℕ) (merges : X → X → X) (refuses : X → X → Bool) (keeps : KeepsKey key merges) where
  -- the entries of a range are merged into a table that is within a whole map
  range_steps : (k start from to : ℕ) (v : Retained X) (whole : List (Fold X)) (xs : List X) →
      AllByRecursion (λ x. 0 < key x) xs → to ≤ start → IsWithin (fold_key key) k start (unmarked v) whole →
      IsWithin (fold_key key) k start
      (after_upserts (fold_key key) k (merge_step (fold_merges key merges refuses) never) (map Value (below key (at_or_above key xs from) to)) (unmarked v))
      (merged_folds key merges refuses whole (below key (at_or_above key xs from) to))
  range_steps k start from to v whole xs nonzero le within =
      let fkey = fold_key key in
      let fmerges = fold_merges key merges refuses in
      let others = at_or_above key xs from in
      let range : List X = below key others to in
      let new = after_upserts fkey k (merge_step fmerges never) (map Value range) (unmarked v) in
      let low : AllByRecursion (λ x. key x < start) range =
      each-passes (λ x. key x < start) (λ x. ltb (key x) to) (λ x e. grind (arith, nat_tests)) others in
      let all : below fkey (map Value range) start ≡ map Value range =
      below_marked key range start ∙ ap (λ ys. map Value ys) (below_all key range start low) in
      let positive : AllByRecursion (λ x. 0 < key x) range =
      each-filter (λ x. 0 < key x) (λ x. ltb (key x) to) others (each-filter (λ x. 0 < key x) (λ x. leb from (key x)) xs nonzero) in
      subst (λ ys. IsWithin fkey k start new (joined fkey fmerges whole ys)) all
      (within-joined fkey k start fmerges never (fold_keeps key merges refuses keeps) (map Value range) (unmarked v) whole (each-marked key (λ h. 0 < h) range positive) within)

  -- one range more is merged
  pub merged-range : (first was now : MapTable X) (xs : List X) (from to : ℕ) → IsRetained key first.kept →
      AllByRecursion (λ x. 0 < key x) xs → from ≤ to → to ≤ first.kept.theta →
      HasMergedBelow key merges refuses first was xs from → HasMerged key merges refuses (at_or_above key xs from) to was now →
      now ≡ record was { kept = now.kept } → HasMergedBelow key merges refuses first now xs to
  merged-range first was now xs from to good nonzero le high so_far merged made =
      let fkey = fold_key key in
      let fmerges = fold_merges key merges refuses in
      let fkeeps = fold_keeps key merges refuses keeps in
      let content = map Value first.kept.entries in
      let part = merged_folds key merges refuses content (below key xs from) in
      let lg : was.lg_nom ≡ first.lg_nom = ap (λ t. t.lg_nom) so_far.made_with in
      let whole_is : merged_folds key merges refuses part (below key (at_or_above key xs from) to) ≡ merged_folds key merges refuses content (below key xs to) =
      rw (below_marked key xs from, range_marked key xs from to, below_marked key xs to) at
      (joined-range fkey fmerges fkeeps content (map Value xs) from to (ascending-marked key first.kept.entries good.ascending) le) in
      record {
        made_with = made_with_next first was now now.kept so_far.made_with made;
        whole =
            rw (merged, lg, ← whole_is)
            (range_steps (2 ^ first.lg_nom) first.kept.theta from to was.kept part xs nonzero high so_far.whole);
      }

  -- the end of all ranges
  pub merged-all : (first now : MapTable X) (xs : List X) (theta far : ℕ) → IsRetained key first.kept →
      theta ≤ first.kept.theta → min theta now.kept.theta ≤ far → HasMergedBelow key merges refuses first now xs far →
      HasMergedAll key merges refuses xs theta first now
  merged-all first now xs theta far good le reached so_far =
      let fkey = fold_key key in
      let fmerges = fold_merges key merges refuses in
      let fkeeps = fold_keeps key merges refuses keeps in
      let k : ℕ = 2 ^ first.lg_nom in
      let entries = first.kept.entries in
      let content = map Value entries in
      let part : IsWithin fkey k first.kept.theta (unmarked now.kept) (joined fkey fmerges content (below fkey (map Value xs) far)) =
      rw (below_marked key xs far) so_far.whole in
      let up = ascending-marked key entries good.ascending in
      rw (below_marked key now.kept.entries (min theta now.kept.theta), below_marked key entries theta, below_marked key xs theta) at
      (within-all fkey fmerges fkeeps k first.kept.theta theta far (unmarked now.kept) content (map Value xs) up le reached part)

  -- what is refused in a range is refused whatever was merged before it
  later_refused : (first was : MapTable X) (theta from to : ℕ) (xs before arriving : List X) →
      AllByRecursion (λ x. 0 < key x) before → to ≤ theta → theta ≤ first.kept.theta →
      HasMergedBelow key merges refuses first was xs from → IsRangeRefused key merges refuses was from to before arriving →
      IsArrivalRefused key merges refuses first.kept.entries theta before arriving
  later_refused first was theta from to xs before arriving nonzero le high so_far r =
      let fkey = fold_key key in
      let fmerges = fold_merges key merges refuses in
      let fkeeps = fold_keeps key merges refuses keeps in
      let k : ℕ = 2 ^ was.lg_nom in
      let held_entry : Fold X = Value r.held_entry in
      let entries = first.kept.entries in
      let content = map Value entries in
      let earlier = map Value before in
      let part = merged_folds key merges refuses content (below key xs from) in
      let range = below key (at_or_above key before from) to in
      let now : Retained (Fold X) = after_upserts fkey k (merge_step fmerges never) (map Value range) (unmarked was.kept) in
      let whole : List (Fold X) = merged_folds key merges refuses part range in
      let lg : was.lg_nom ≡ first.lg_nom = ap (λ t. t.lg_nom) so_far.made_with in
      let merged : IsWithin fkey k first.kept.theta now whole =
      range_steps k first.kept.theta from to was.kept part before nonzero (omega (arith, le, high)) (rw lg so_far.whole) in
      let comes = at_or_above_found key arriving from r.at r.new_entry r.comes in
      let held = below_found fkey now.entries to r.at held_entry r.is_held in
      let found = below_found fkey whole now.theta r.at held_entry (ap (λ ys. entry_at fkey ys r.at) (sym merged.entries_are) ∙ held.1) in
      let in_range : entry_at fkey whole r.at ≡ entry_at fkey (joined fkey fmerges content earlier) r.at =
      rw (below_marked key xs from, range_marked key before from to) at
      (range_entry fkey fmerges fkeeps content (map Value xs) earlier from to r.at comes.0 held.0) in
      let early : entry_at fkey (merged_folds key merges refuses (map Value (below key entries theta)) (below key before theta)) r.at ≡ entry_at fkey (joined fkey fmerges content earlier) r.at =
      rw (below_marked key entries theta, below_marked key before theta) at
      (early_entry fkey fmerges fkeeps content earlier theta r.at (omega (arith, held.0, le))) in
      record {
        at = r.at;
        held_entry = r.held_entry;
        new_entry = r.new_entry;
        is_held = early ∙ sym in_range ∙ found.1;
        comes = comes.1;
        refused = r.refused;
      }

module _ {X S : Type 0} (key : X → ℕ) (shown : S → Shown) (listing : S → List X) where
  -- the hashes of inputs are not 0
  pub nonzero_listed : (sketches : List S) → AllByRecursion (λ s. IsInput key (shown s) (listing s)) sketches →
      AllByRecursion (λ x. 0 < key x) (flat_map listing sketches)
  nonzero_listed [] all = tt
  nonzero_listed (s ∷ sketches) all =
      let first = each-from_map key (λ h. 0 < h) (listing s) (rw all.0.hashes all.0.lawful.nonzero) in
      each-append (λ x. 0 < key x) (listing s) (flat_map listing sketches) first (nonzero_listed sketches all.1)

  -- the refusal of a range is one of all
  pub all_refused : (merges : X → X → X) (refuses : X → X → Bool) → KeepsKey key merges →
      (first was : MapTable X) (theta from to : ℕ) (xs : List X) (sketches : List S) (kind : ErrorKind) →
      AllByRecursion (λ s. IsInput key (shown s) (listing s)) sketches → to ≤ theta → theta ≤ first.kept.theta →
      HasMergedBelow key merges refuses first was xs from →
      IsRangeRefusal key merges refuses was from to listing sketches kind →
      IsAllRefusal key merges refuses first.kept.entries theta listing sketches kind
  all_refused merges refuses keeps first was theta from to xs sketches kind inputs le high so_far (inl out) = inl out
  all_refused merges refuses keeps first was theta from to xs sketches kind inputs le high so_far (inr r) =
      let stop = r.1 in
      let before = nonzero_listed stop.0 (each-front _ stop.0 (stop.1 ∷ stop.2) (rw stop.3 at inputs)) in
      let refused = later_refused key merges refuses keeps first was theta from to xs _ _ before le high so_far stop.4 in
      inr (r.0, (stop.0, stop.1, stop.2, stop.3, refused))
