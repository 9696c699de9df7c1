-- A listing that is merged into a table, entry by entry.
use Rattle.std.proofs.Common.{◌≡◌, ℕ, zero, ◌*◌, ◌/◌, ◌^◌, ◌<◌, ◌≤◌, ◌≢◌, min, Bool, true, false, cond, leb, ltb, eqb, List, [], ◌∷◌, map, length, Option, Some, None, Result, Ok, Err, OnOk, IfErr, ◌⊎◌, inl, inr, refl, sym, ap, ◌∙◌, subst, arith}
use Rattle.std.specs.Prelude.{◌&&◌}
use Rattle.std.specs.List.{AllByRecursion}
use Rattle.std.proofs.lemmas.Bool.{cases_lt, ltb-false, lt-ltb, lt-leb, le-leb, leb-true, leb-false}
use Rattle.std.proofs.lemmas.Bool.Decides.{nat_tests}
use Rattle.sketch_base.specs.declared.error.ErrorKind.{ErrorKind}
use Rattle.core_laws.specs.Maps.{IsAscending, below, entry_at, with_entry, IsApart}
use Rattle.core_laws.specs.Cuts.{Retained, cut}
use Rattle.core_table.specs.Gathering.{from_below}
use Rattle.core_operators.specs.Iter.{still_read}
use Rattle.core_laws.specs.Insertion.{is_screened, rebuilt, after_upsert, upsert_refusal, after_upserts}
use Rattle.core_laws.specs.Step.{merge_step}
use Rattle.core_laws.specs.Folds.{Fold, Value, fold_key, fold_merges, unmarked, never}
use Rattle.core_operators.specs.Union.{HasMerged, IsMergeRefused, IsMergeRefusal, at_or_above}
use Rattle.core_table.specs.HashTable.{MapTable, after_insertion}
use Rattle.core_table.proofs.FilledTables.{made_with_next}
use Rattle.core_laws.proofs.maps.Ascending.{each-weaker, each-passes, filter_each, ascending-head, ascending-tail}
use Rattle.core_laws.proofs.cuts.Cuts.{cut_is_below}
use Rattle.core_laws.proofs.maps.LookUps.{entry_at-below, entry_at-with_entry, entry_at_rest, entry_at_head}
use Rattle.core_laws.proofs.cuts.WithinWholeMaps.{found_key}
use Rattle.core_laws.proofs.insertions.Cases.{screened_case, existing_case, absent_case, is_screened_true}
use Rattle.core_laws.proofs.insertions.Unmarked.{unmarked-upsert, was_refused}
use Rattle.sketch_base.specs.declared.error.ErrorKind.TheVariants.{Policy, OutOfMemory}
use Rattle.core_laws.specs.Entries.{KeepsKey}

module _ {X : Type 0} where
  none_some : {x : X} → None ≡ Some x → ⊥
  none_some e = cc

  cond_some : (b : Bool) (o : Option X) (w : X) → cond b o None ≡ Some w → o ≡ Some w
  cond_some true o w e = e
  cond_some false o w e = cc

module _ {X : Type 0} (key : X → ℕ) where
  below_keeps : (xs : List X) (t q : ℕ) (w : X) → entry_at key (below key xs t) q ≡ Some w → entry_at key xs q ≡ Some w
  below_keeps xs t q w found = cond_some (ltb q t) (entry_at key xs q) w (sym (entry_at-below key xs t q) ∙ found)

  -- a rebuild keeps only entries that were there
  rebuilt_keeps : (k : ℕ) (xs : List X) (theta q : ℕ) (w : X) → entry_at key (rebuilt key k xs theta).entries q ≡ Some w → entry_at key xs q ≡ Some w
  unfolding rebuilt
  rebuilt_keeps k xs theta q w =
      elim (leb 8 k && ltb (15 * k / 8) (length xs)) as (λ b. entry_at key (cond b (cut key k xs theta) (record { entries = xs; theta = theta })).entries q ≡ Some w → entry_at key xs q ≡ Some w) [
        | true ↦ λ found. below_keeps xs (cut key k xs theta).theta q w (ap (λ v. entry_at key v.entries q) (sym (cut_is_below key k xs theta)) ∙ found)
        | false ↦ λ found. found
      ]

  -- the entries left of a listing, and what the table has at their keys
  pub record IsMerging (listing first left now : List X) (ordered : Bool) : Type 0 where
    pub apart : IsApart key left
    pub among : (q : ℕ) (x : X) → entry_at key left q ≡ Some x → entry_at key listing q ≡ Some x
    pub untouched : (q : ℕ) (x w : X) → entry_at key left q ≡ Some x → entry_at key now q ≡ Some w → entry_at key first q ≡ Some w
    pub in_order : ordered ≡ true → IsAscending key left

  merging-start : (listing first : List X) (ordered : Bool) → IsApart key listing → (ordered ≡ true → IsAscending key listing) → IsMerging listing first listing first ordered
  merging-start listing first ordered apart in_order = record { apart = apart; among = λ q x found. found; untouched = λ q x w found there. there; in_order = in_order }

module _ {X : Type 0} (key : X → ℕ) where
  -- an entry at or above theta is not among those below it
  below_passed : (theta : ℕ) (left : List X) (x : X) → theta ≤ key x → below key (x ∷ left) theta ≡ below key left theta
  below_passed theta left x le = let e : ltb (key x) theta ≡ false = grind (arith, nat_tests) in rw e refl

  -- an entry below a hash is not among those from it on
  pub at_or_above_passed : (from : ℕ) (left : List X) (x : X) → key x < from → at_or_above key (x ∷ left) from ≡ at_or_above key left from
  at_or_above_passed from left x lt = let e : leb from (key x) ≡ false = lt-leb from (key x) lt in rw e refl

  pub at_or_above_reached : (from : ℕ) (left : List X) (x : X) → from ≤ key x → at_or_above key (x ∷ left) from ≡ x ∷ at_or_above key left from
  at_or_above_reached from left x le = let e : leb from (key x) ≡ true = le-leb from (key x) le in rw e refl

  -- the first entry is from a hash on
  pub at_or_above_front : (from : ℕ) (whole left : List X) (x : X) → whole ≡ x ∷ left → from ≤ key x → at_or_above key whole from ≡ x ∷ at_or_above key left from
  at_or_above_front from whole left x shape le = rw shape (at_or_above_reached from left x le)

  -- all ascending entries are from a hash on if the first is
  pub at_or_above_ascending : (from : ℕ) (left : List X) (x : X) → IsAscending key (x ∷ left) → from ≤ key x → at_or_above key (x ∷ left) from ≡ x ∷ left
  at_or_above_ascending from left x up le =
      filter_each _ (x ∷ left) (le-leb from (key x) le, each-weaker _ _ (λ y lt. le-leb from (key y) (omega (arith, lt, le))) left (ascending-head key x left up))

  -- all entries are from 0 on
  pub at_or_above_zero : (xs : List X) → at_or_above key xs 0 ≡ xs
  at_or_above_zero [] = refl
  at_or_above_zero (x ∷ xs) = at_or_above_reached 0 xs x (omega arith) ∙ ap (λ ys. x ∷ ys) (at_or_above_zero xs)

module _ {X : Type 0} (key : X → ℕ) (merges : X → X → X) (refuses : X → X → Bool) where
  -- an insertion doesn't change the entries of other keys, or drops them
  upsert_elsewhere : KeepsKey key merges → (k : ℕ) (x : X) (v : Retained X) (q : ℕ) (w : X) → key x ≢ q → entry_at key (after_upsert key k (key x) (merge_step merges refuses x) v).entries q ≡ Some w → entry_at key v.entries q ≡ Some w
  upsert_elsewhere keeps k x v q w differs =
      (elim (is_screened (key x) v.theta) as (λ b. is_screened (key x) v.theta ≡ b → entry_at key (after_upsert key k (key x) (merge_step merges refuses x) v).entries q ≡ Some w → entry_at key v.entries q ≡ Some w) [
        | true ↦ λ s. rw (screened_case key k (key x) (merge_step merges refuses x) v s).after_is (λ found. found)
        | false ↦ λ s.
            (elim (entry_at key v.entries (key x)) as (λ o. entry_at key v.entries (key x) ≡ o → entry_at key (after_upsert key k (key x) (merge_step merges refuses x) v).entries q ≡ Some w → entry_at key v.entries q ≡ Some w) [
              | Some y ↦ λ e.
                  let new_key : key (merges y x) ≡ key x = keeps y x (found_key key v.entries (key x) y e) in
                  let other : eqb (key (merges y x)) q ≡ false = grind (arith, nat_tests) in
                  rw (existing_case key k (key x) (merge_step merges refuses x) v y s e).after_is
                  (λ found. ap (λ b. cond b (Some (merges y x)) (entry_at key v.entries q)) (sym other) ∙ sym (entry_at-with_entry key v.entries (merges y x) q) ∙ found)
              | None ↦ λ e.
                  let other : eqb (key x) q ≡ false = grind (arith, nat_tests) in
                  rw (absent_case key k (key x) (merge_step merges refuses x) v s e).after_is
                  (λ found. ap (λ b. cond b (Some x) (entry_at key v.entries q)) (sym other) ∙ sym (entry_at-with_entry key v.entries x q) ∙ rebuilt_keeps key k (with_entry key v.entries x) v.theta q w found)
            ]) refl
      ]) refl

  -- the keys that are left differ from the first
  not_first : (x : X) (left : List X) (q : ℕ) (y : X) → entry_at key left (key x) ≡ None → entry_at key left q ≡ Some y → key x ≢ q
  not_first x left q y none found tie = let there : entry_at key left q ≡ None = subst (λ (h : ℕ). entry_at key left h ≡ None) tie none in none_some (sym there ∙ found)

  merging-next : KeepsKey key merges → (k : ℕ) (listing first left : List X) (x : X) (v : Retained X) (ordered : Bool) → IsMerging key listing first (x ∷ left) v.entries ordered → IsMerging key listing first left (after_upsert key k (key x) (merge_step merges refuses x) v).entries ordered
  merging-next keeps k listing first left x v ordered so_far = record {
    apart = so_far.apart.1;
    among = λ q y found. so_far.among q y (entry_at_rest key x left q (not_first x left q y so_far.apart.0 found) ∙ found);
    untouched = λ q y w found there.
        let differs = not_first x left q y so_far.apart.0 found in
        so_far.untouched q y w (entry_at_rest key x left q differs ∙ found) (upsert_elsewhere keeps k x v q w differs there);
    in_order = λ e. ascending-tail key x left (so_far.in_order e);
  }

  -- an entry that is skipped
  merging-passed : (listing first left now : List X) (x : X) (ordered : Bool) → IsMerging key listing first (x ∷ left) now ordered → IsMerging key listing first left now ordered
  merging-passed listing first left now x ordered so_far = record {
    apart = so_far.apart.1;
    among = λ q y found. so_far.among q y (entry_at_rest key x left q (not_first x left q y so_far.apart.0 found) ∙ found);
    untouched = λ q y w found there. so_far.untouched q y w (entry_at_rest key x left q (not_first x left q y so_far.apart.0 found) ∙ found) there;
    in_order = λ e. ascending-tail key x left (so_far.in_order e);
  }

  merging-tail : (listing first left now : List X) (x : X) (from : ℕ) (ordered : Bool) → IsMerging key listing first (at_or_above key (x ∷ left) from) now ordered → IsMerging key listing first (at_or_above key left from) now ordered
  merging-tail listing first left now x from ordered =
      elim (leb from (key x)) as (λ b. IsMerging key listing first (cond b (x ∷ at_or_above key left from) (at_or_above key left from)) now ordered → IsMerging key listing first (at_or_above key left from) now ordered) [
        | true ↦ λ so_far. merging-passed listing first (at_or_above key left from) now x ordered so_far
        | false ↦ λ so_far. so_far
      ]

  merging-refused : (listing first left : List X) (x : X) (v : Retained X) (ordered : Bool) (theta : ℕ) (kind : ErrorKind) → key x < theta → IsMerging key listing first (x ∷ left) v.entries ordered → upsert_refusal key (key x) (merge_step merges refuses x) v ≡ Some kind → (kind ≡ Policy) × IsMergeRefused key refuses (below key first theta) listing
  merging-refused listing first left x v ordered theta kind lt so_far =
      (elim (is_screened (key x) v.theta) as (λ b. is_screened (key x) v.theta ≡ b → upsert_refusal key (key x) (merge_step merges refuses x) v ≡ Some kind → (kind ≡ Policy) × IsMergeRefused key refuses (below key first theta) listing) [
        | true ↦ λ s. rw (screened_case key zero (key x) (merge_step merges refuses x) v s).refusal_is (λ e. absurd (none_some e))
        | false ↦ λ s.
            (elim (entry_at key v.entries (key x)) as (λ o. entry_at key v.entries (key x) ≡ o → upsert_refusal key (key x) (merge_step merges refuses x) v ≡ Some kind → (kind ≡ Policy) × IsMergeRefused key refuses (below key first theta) listing) [
              | Some w ↦ λ e. rw (existing_case key zero (key x) (merge_step merges refuses x) v w s e).refusal_is (λ refused. (
                (was_refused (refuses w x) kind refused).1,
                record {
                  at = key x;
                  held_entry = w;
                  new_entry = x;
                  is_held = entry_at-below key first theta (key x) ∙ ap (λ b. cond b (entry_at key first (key x)) None) (lt-ltb (key x) theta lt) ∙ so_far.untouched (key x) x w (entry_at_head key x left (key x) refl) e;
                  comes = so_far.among (key x) x (entry_at_head key x left (key x) refl);
                  refused = (was_refused (refuses w x) kind refused).0;
                },
              ))
              | None ↦ λ e. rw (absent_case key zero (key x) (merge_step merges refuses x) v s e).refusal_is (λ e. absurd (none_some e))
            ]) refl
      ]) refl

  -- the map in folds after the entries below theta were merged into a table's, one after another
  abbrev pub after_merges : (k theta : ℕ) → List X → Retained X → Retained (Fold X)
  after_merges k theta xs v = after_upserts (fold_key key) k (merge_step (fold_merges key merges refuses) never) (map Value (below key xs theta)) (unmarked v)

  -- entries that are not below theta change nothing
  screened_all : (k : ℕ) (xs : List X) (u : Retained (Fold X)) → AllByRecursion (λ x. u.theta ≤ key x) xs → after_upserts (fold_key key) k (merge_step (fold_merges key merges refuses) never) (map Value xs) u ≡ u
  screened_all k [] u all = refl
  screened_all k (x ∷ xs) u all =
      ap (λ v. after_upserts (fold_key key) k (merge_step (fold_merges key merges refuses) never) (map Value xs) v) (screened_case (fold_key key) k (key x) (merge_step (fold_merges key merges refuses) never (Value x)) u (is_screened_true (key x) u.theta (inr all.0))).after_is ∙ screened_all k xs u all.1

  -- if all keys are at least h, and h is at least the lesser of theta and t, the keys below theta are at least t
  from_lesser : (xs : List X) (theta t h : ℕ) → min theta t ≤ h → AllByRecursion (λ x. h ≤ key x) xs → AllByRecursion (λ x. t ≤ key x) (below key xs theta)
  from_lesser [] theta t h le all = tt
  from_lesser (x ∷ xs) theta t h le all =
      (elim (ltb (key x) theta) as (λ b. ltb (key x) theta ≡ b → AllByRecursion (λ y. t ≤ key y) (cond b (x ∷ below key xs theta) (below key xs theta))) [
        | true ↦ λ e. let lt : key x < theta = grind (arith, nat_tests) in (omega (arith, le, lt, all.0), from_lesser xs theta t h le all.1)
        | false ↦ λ e. from_lesser xs theta t h le all.1
      ]) refl

  -- an entry that is not below the lesser theta changes nothing
  skipped_folds : (k theta : ℕ) (v : Retained X) (left : List X) (x : X) → min theta v.theta ≤ key x → after_merges k theta left v ≡ after_merges k theta (x ∷ left) v
  skipped_folds k theta v left x le =
      let step = merge_step (fold_merges key merges refuses) never in
      let folded : List X → Retained (Fold X) → Retained (Fold X) = λ ys u. after_upserts (fold_key key) k step (map Value ys) u in
      let others = below key left theta in
      elim (cases_lt (key x) theta) [
        | inl lt ↦
            let screened : v.theta ≤ key x = omega (arith, le, lt) in
            let same = (screened_case (fold_key key) k (key x) (step (Value x)) (unmarked v) (is_screened_true (key x) v.theta (inr screened))).after_is in
            rw (lt-ltb (key x) theta lt) (sym (ap (folded others) same))
        | inr high ↦ ap (λ ys. folded ys (unmarked v)) (sym (below_passed key theta left x high))
      ]

  -- an entry that is screened, or not below theta, changes nothing
  screened_folds : (k theta : ℕ) (v : Retained X) (left : List X) (x : X) → (is_screened (key x) v.theta ≡ true) ⊎ (theta ≤ key x) → after_merges k theta left v ≡ after_merges k theta (x ∷ left) v
  screened_folds k theta v left x (inr high) =
      ap (λ ys. after_upserts (fold_key key) k (merge_step (fold_merges key merges refuses) never) (map Value ys) (unmarked v)) (sym (below_passed key theta left x high))
  screened_folds k theta v left x (inl screened) =
      let step = merge_step (fold_merges key merges refuses) never in
      let folded : List X → Retained (Fold X) → Retained (Fold X) = λ ys u. after_upserts (fold_key key) k step (map Value ys) u in
      let others = below key left theta in
      let same = (screened_case (fold_key key) k (key x) (step (Value x)) (unmarked v) screened).after_is in
      elim (ltb (key x) theta) as (λ b. folded others (unmarked v) ≡ folded (cond b (x ∷ others) others) (unmarked v)) [ true ↦ sym (ap (folded others) same) | false ↦ refl ]

  -- entries that are skipped because they are not below the lesser theta change nothing
  from_below_folds : (k from theta : ℕ) (v : Retained X) (xs : List X) →
      after_merges k theta (at_or_above key (from_below key (min theta v.theta) xs) from) v ≡ after_merges k theta (at_or_above key xs from) v
  from_below_folds k from theta v [] = refl
  from_below_folds k from theta v (x ∷ xs) =
      let lesser = min theta v.theta in
      let left = at_or_above key xs from in
      (elim (ltb (key x) lesser) as (λ b. ltb (key x) lesser ≡ b → after_merges k theta (at_or_above key (cond b (x ∷ xs) (from_below key lesser xs)) from) v ≡ after_merges k theta (at_or_above key (x ∷ xs) from) v) [
        | true ↦ λ e. refl
        | false ↦ λ e.
            let high : lesser ≤ key x = ltb-false _ _ e in
            from_below_folds k from theta v xs ∙ elim (leb from (key x)) as (λ b. after_merges k theta left v ≡ after_merges k theta (cond b (x ∷ left) left) v) [
              | true ↦ skipped_folds k theta v left x high
              | false ↦ refl
            ]
      ]) refl

  still_folds : (k from theta : ℕ) (v : Retained X) (ordered : Bool) (xs : List X) →
      after_merges k theta (at_or_above key (still_read key ordered (min theta v.theta) xs) from) v ≡ after_merges k theta (at_or_above key xs from) v
  still_folds k from theta v true xs = refl
  still_folds k from theta v false xs = from_below_folds k from theta v xs

  from_below_merging : (listing first now : List X) (from t : ℕ) (xs : List X) (ordered : Bool) → IsMerging key listing first (at_or_above key xs from) now ordered → IsMerging key listing first (at_or_above key (from_below key t xs) from) now ordered
  from_below_merging listing first now from t [] ordered so_far = so_far
  from_below_merging listing first now from t (x ∷ xs) ordered so_far =
      elim (ltb (key x) t) as (λ b. IsMerging key listing first (at_or_above key (cond b (x ∷ xs) (from_below key t xs)) from) now ordered) [
        | true ↦ so_far
        | false ↦ from_below_merging listing first now from t xs ordered (merging-tail listing first xs now x from ordered so_far)
      ]

  still_merging : (listing first now : List X) (from t : ℕ) (xs : List X) (ordered : Bool) → IsMerging key listing first (at_or_above key xs from) now ordered → IsMerging key listing first (at_or_above key (still_read key ordered t xs) from) now ordered
  still_merging listing first now from t xs true so_far = so_far
  still_merging listing first now from t xs false so_far = from_below_merging listing first now from t xs false so_far

  -- if nothing is still read, nothing more is merged
  folds_none : (k from theta lesser : ℕ) (rest : List X) (v : Retained X) (ordered : Bool) → lesser ≡ min theta v.theta → still_read key ordered lesser rest ≡ []
      → unmarked v ≡ after_merges k theta (at_or_above key rest from) v
  folds_none k from theta lesser rest v ordered lesser_is read =
      let none : still_read key ordered (min theta v.theta) rest ≡ [] = rw (← lesser_is) read in
      let folded = still_folds k from theta v ordered rest in
      rw none at folded

  -- an entry of a list in order that is not below the lesser theta: nothing of it and those that follow is merged
  folds_stop : (k theta : ℕ) (listing first left : List X) (x : X) (v : Retained X) → IsMerging key listing first (x ∷ left) v.entries true → min theta v.theta ≤ key x → after_merges k theta (x ∷ left) v ≡ unmarked v
  folds_stop k theta listing first left x v so_far le =
      screened_all k (below key (x ∷ left) theta) (unmarked v) (from_lesser (x ∷ left) theta v.theta (key x) le (omega arith, each-weaker _ _ (λ y lt. omega (arith, lt)) left (ascending-head key x left (so_far.in_order refl))))

  -- if an entry is not below the lesser theta, nothing of it and those that follow in order is merged
  folds_stop_from : (k from theta : ℕ) (listing first left : List X) (x : X) (v : Retained X) → IsMerging key listing first (at_or_above key (x ∷ left) from) v.entries true → min theta v.theta ≤ key x
      → after_merges k theta (at_or_above key (x ∷ left) from) v ≡ unmarked v
  folds_stop_from k from theta listing first left x v so_far le =
      let others = at_or_above key left from in
      (elim (leb from (key x)) as (λ b. leb from (key x) ≡ b → IsMerging key listing first (cond b (x ∷ others) others) v.entries true → after_merges k theta (cond b (x ∷ others) others) v ≡ unmarked v) [
        | true ↦ λ _ merging. folds_stop k theta listing first others x v merging le
        | false ↦ λ e _.
            let past : key x < from = leb-false _ _ e in
            let later : AllByRecursion (λ y. key x ≤ key y) others = each-passes _ _ (λ y p. let high : from ≤ key y = leb-true _ _ p in omega (arith, high, past)) left in
            screened_all k (below key others theta) (unmarked v) (from_lesser others theta v.theta (key x) le later)
      ]) refl so_far

  folds_next : (k theta : ℕ) (left : List X) (x : X) (v : Retained X) → key x < theta → upsert_refusal key (key x) (merge_step merges refuses x) v ≡ None
      → after_merges k theta left (after_upsert key k (key x) (merge_step merges refuses x) v) ≡ after_merges k theta (x ∷ left) v
  folds_next k theta left x v lt allowed =
      rw (lt-ltb (key x) theta lt) (ap (λ u. after_upserts (fold_key key) k (merge_step (fold_merges key merges refuses) never) (map Value (below key left theta)) u) (unmarked-upsert key merges refuses k x v allowed))

module _ {X : Type 0} (key : X → ℕ) where
  apart-from_below : (t : ℕ) (xs : List X) → IsApart key xs → IsApart key (from_below key t xs)
  apart-from_below t [] apart = apart
  apart-from_below t (x ∷ xs) apart = elim (ltb (key x) t) as (λ b. IsApart key (cond b (x ∷ xs) (from_below key t xs))) [ true ↦ apart | false ↦ apart-from_below t xs apart.1 ]

  -- the keys of the entries that are still read differ
  apart-still : (ordered : Bool) (t : ℕ) (xs : List X) → IsApart key xs → IsApart key (still_read key ordered t xs)
  apart-still true t xs apart = apart
  apart-still false t xs apart = apart-from_below t xs apart

module _ {X : Type 0} (key : X → ℕ) (refuses : X → X → Bool) where
  -- what is refused when the entries left are merged would be refused when all are
  refused_earlier : (listing first left now : List X) (ordered : Bool) (theta : ℕ) (kind : ErrorKind) → IsMerging key listing first left now ordered → IsMergeRefusal key refuses now theta left kind → IsMergeRefusal key refuses first theta listing kind
  refused_earlier listing first left now ordered theta kind so_far (inl memory) = inl memory
  refused_earlier listing first left now ordered theta kind so_far (inr why) =
      let at = why.1.at in
      let held : cond (ltb at theta) (entry_at key first at) None ≡ Some why.1.held_entry =
      elim (ltb at theta) as (λ b. cond b (entry_at key now at) None ≡ Some why.1.held_entry → cond b (entry_at key first at) None ≡ Some why.1.held_entry) [
        | true ↦ λ there. so_far.untouched at why.1.new_entry why.1.held_entry why.1.comes there
        | false ↦ λ none. none
      ] (sym (entry_at-below key now theta at) ∙ why.1.is_held) in
      inr (
        why.0,
        record {
          at = at;
          held_entry = why.1.held_entry;
          new_entry = why.1.new_entry;
          is_held = entry_at-below key first theta at ∙ held;
          comes = so_far.among at why.1.new_entry why.1.comes;
          refused = why.1.refused;
        },
      )

-- what follows of the result of a call follows of one that is returned as it is
pub on_ok : {T E : Type 0} (r : Result T E) (P Q : Type 0) → (P → Q) → OnOk r P → OnOk r Q
on_ok (Ok x) P Q f p = f p
on_ok (Err e) P Q f p = p

pub if_err : {T E : Type 0} (r : Result T E) (P Q : E → Type 0) → ((e : E) → P e → Q e) → IfErr r P → IfErr r Q
if_err (Ok x) P Q f p = p
if_err (Err e) P Q f p = f e p

from_below-fewer : {X : Type 0} (key : X → ℕ) (t : ℕ) (xs : List X) → length (from_below key t xs) ≤ length xs
from_below-fewer key t [] = omega arith
from_below-fewer key t (x ∷ xs) = elim (ltb (key x) t) as (λ b. length (cond b (x ∷ xs) (from_below key t xs)) ≤ length (x ∷ xs)) [ true ↦ omega arith | false ↦ omega (arith, from_below-fewer key t xs) ]

still_fewer : {X : Type 0} (key : X → ℕ) (ordered : Bool) (t : ℕ) (xs : List X) → length (still_read key ordered t xs) ≤ length xs
still_fewer key true t xs = omega arith
still_fewer key false t xs = from_below-fewer key t xs

-- a table into which the entries of a listing were merged, but for those left. It has the settings of the first table
pub record IsMergedBut {X : Type 0} (key : X → ℕ) (merges : X → X → X) (refuses : X → X → Bool) (theta : ℕ) (ordered : Bool) (listing : List X) (first : MapTable X) (left : List X) (now : MapTable X) : Type 0 where
  pub rest : after_merges key merges refuses (2 ^ first.lg_nom) theta left now.kept ≡ after_merges key merges refuses (2 ^ first.lg_nom) theta listing first.kept
  pub made_with : now ≡ record first { kept = now.kept }
  pub merging : IsMerging key listing first.kept.entries left now.kept.entries ordered

-- later in the same merge: fewer entries are left, and the table is another
abbrev pub Later : {X : Type 0} → {key : X → ℕ} → {merges : X → X → X} → {refuses : X → X → Bool} → {theta : ℕ} → {ordered : Bool} → {listing : List X} → {first : MapTable X} → {before : List X} → {was : MapTable X}
    → IsMergedBut key merges refuses theta ordered listing first before was → List X → MapTable X → Type 0
Later {X} {key} {merges} {refuses} {theta} {ordered} {listing} {first} so_far left now = IsMergedBut key merges refuses theta ordered listing first left now

-- the entry x, of this hash, is inserted: the merge after that, and what a refusal of it means for the whole listing
pub record IsNext {X : Type 0} {key : X → ℕ} {merges : X → X → X} {refuses : X → X → Bool} {theta : ℕ} {ordered : Bool} {listing : List X} {first : MapTable X} {before : List X} {was : MapTable X}
    (so_far : IsMergedBut key merges refuses theta ordered listing first before was) (now : MapTable X) (hash : ℕ) (x : X) (left : List X) : Type 0 where
  pub merged : (new : MapTable X) → new ≡ after_insertion key hash (merge_step merges refuses x) now → upsert_refusal key hash (merge_step merges refuses x) now.kept ≡ None → Later so_far left new
  pub refused : (kind : ErrorKind) → (upsert_refusal key hash (merge_step merges refuses x) now.kept ≡ Some kind) ⊎ (kind ≡ OutOfMemory) → IsMergeRefusal key refuses first.kept.entries theta listing kind

-- the entry x was read next, in front of those left: it is passed, or it is the next to insert
pub record IsRead {X : Type 0} {key : X → ℕ} {merges : X → X → X} {refuses : X → X → Bool} {theta : ℕ} {ordered : Bool} {listing : List X} {first : MapTable X} {before : List X} {now : MapTable X}
    (so_far : IsMergedBut key merges refuses theta ordered listing first before now) (from : ℕ) (x : X) (left : List X) : Type 0 where
  pub apart : IsApart key (x ∷ left)
  pub whole : Later so_far (at_or_above key (x ∷ left) from) now
  pub passed : (key x < from) ⊎ (theta ≤ key x) → Later so_far (at_or_above key left from) now
  pub next : (hash : ℕ) → hash ≡ key x → from ≤ hash → hash < theta → IsNext so_far now hash x (at_or_above key left from)

module _ {X : Type 0} {key : X → ℕ} {merges : X → X → X} {refuses : X → X → Bool} {theta : ℕ} {ordered : Bool} {listing : List X} {first : MapTable X} where
  -- at first all are left
  pub merge_starts : IsApart key listing → (ordered ≡ true → IsAscending key listing) → IsMergedBut key merges refuses theta ordered listing first listing first
  merge_starts apart in_order = record { rest = refl; made_with = refl; merging = merging-start key listing first.kept.entries ordered apart in_order }

  module _ {now : MapTable X} where
    -- an entry that is screened, or not below theta, is passed
    pub merge_passes : {left : List X} (x : X) → IsMergedBut key merges refuses theta ordered listing first (x ∷ left) now → (is_screened (key x) now.kept.theta ≡ true) ⊎ (theta ≤ key x) → IsMergedBut key merges refuses theta ordered listing first left now
    merge_passes {left} x so_far passed = record {
      rest = screened_folds key merges refuses (2 ^ first.lg_nom) theta now.kept left x passed ∙ so_far.rest;
      made_with = so_far.made_with;
      merging = merging-passed key merges refuses listing first.kept.entries left now.kept.entries x ordered so_far.merging;
    }

    -- the entry in front is inserted, or its insertion is refused
    module _ {left : List X} (x : X) (so_far : IsMergedBut key merges refuses theta ordered listing first (x ∷ left) now) (low : key x < theta) where
      pub merged_next : KeepsKey key merges → (new : MapTable X) → new ≡ after_insertion key (key x) (merge_step merges refuses x) now → upsert_refusal key (key x) (merge_step merges refuses x) now.kept ≡ None → IsMergedBut key merges refuses theta ordered listing first left new
      merged_next keeps new changed allowed =
          let k = 2 ^ first.lg_nom in
          let lg : now.lg_nom ≡ first.lg_nom = ap (λ t. t.lg_nom) so_far.made_with in
          let next : new.kept ≡ after_upsert key k (key x) (merge_step merges refuses x) now.kept = rw (← lg) (ap (λ t. t.kept) changed) in
          record {
            rest = rw next (folds_next key merges refuses k theta left x now.kept low allowed) ∙ so_far.rest;
            made_with = made_with_next first now new _ so_far.made_with changed;
            merging = rw next (merging-next key merges refuses keeps k listing first.kept.entries left x now.kept ordered so_far.merging);
          }

      pub refused_next : (kind : ErrorKind) → upsert_refusal key (key x) (merge_step merges refuses x) now.kept ≡ Some kind → (kind ≡ Policy) × IsMergeRefused key refuses (below key first.kept.entries theta) listing
      refused_next kind refusal = merging-refused key merges refuses listing first.kept.entries left x now.kept ordered theta kind low so_far.merging refusal

    pub is_next : {before : List X} {was : MapTable X} {so_far : IsMergedBut key merges refuses theta ordered listing first before was} {hash : ℕ} {x : X} {unread left : List X}
        → IsMergedBut key merges refuses theta ordered listing first unread now → KeepsKey key merges → unread ≡ x ∷ left → hash ≡ key x → hash < theta → IsNext so_far now hash x left
    is_next {before} {was} {so_far} {hash} {x} {unread} {left} it keeps front hash_is low =
        let here : IsMergedBut key merges refuses theta ordered listing first (x ∷ left) now = subst (λ ys. IsMergedBut key merges refuses theta ordered listing first ys now) front it in
        let lt : key x < theta = rw (← hash_is) low in
        record {
          merged = λ new changed allowed. merged_next x here lt keeps new (rw (← hash_is) changed) (rw (← hash_is) allowed);
          refused = λ kind why. elim why [ inl r ↦ inr (refused_next x here lt kind (rw (← hash_is) r)) | inr o ↦ inl o ];
        }

    -- an entry in front of those left, of this hash, isn't from a hash on to below theta: it is skipped
    pub skipped : (from hash : ℕ) (x : X) (whole left : List X) → IsMergedBut key merges refuses theta ordered listing first (at_or_above key whole from) now → whole ≡ x ∷ left → hash ≡ key x → (hash < from) ⊎ (theta ≤ hash)
        → IsMergedBut key merges refuses theta ordered listing first (at_or_above key left from) now
    skipped from hash x whole left so_far shape hash_is why =
        let others = at_or_above key left from in
        let here : IsMergedBut key merges refuses theta ordered listing first (at_or_above key (x ∷ left) from) now = subst (λ ys. IsMergedBut key merges refuses theta ordered listing first (at_or_above key ys from) now) shape so_far in
        elim why [
          | inl lt ↦ subst (λ ys. IsMergedBut key merges refuses theta ordered listing first ys now) (at_or_above_passed key from left x (omega (arith, hash_is, lt))) here
          | inr high ↦
              (elim (leb from (key x)) as (λ b. IsMergedBut key merges refuses theta ordered listing first (cond b (x ∷ others) others) now → IsMergedBut key merges refuses theta ordered listing first others now) [
                | true ↦ λ it. merge_passes x it (inr (omega (arith, hash_is, high)))
                | false ↦ λ it. it
              ]) here
        ]

    -- the entries that are left are merged by another call, into an equal table
    module _ {before : List X} (so_far : IsMergedBut key merges refuses theta ordered listing first before now) {was : MapTable X} {left : List X} (same : was ≡ now) (same_left : left ≡ before) where
      pub rest_merged : {T : Type 0} (new : MapTable X) (r : Result T ErrorKind) → OnOk r (HasMerged key merges refuses left theta was new) → OnOk r (HasMerged key merges refuses listing theta first new)
      rest_merged new r =
          let folded : MapTable X → List X → Retained (Fold X) = λ t ys. after_merges key merges refuses (2 ^ t.lg_nom) theta ys t.kept in
          on_ok r _ _ (λ merged. merged ∙ (λ i. folded (same i) (same_left i)) ∙ ap (λ t. after_merges key merges refuses (2 ^ t.lg_nom) theta before now.kept) so_far.made_with ∙ so_far.rest)

      pub rest_refused : {T : Type 0} (r : Result T ErrorKind) → IfErr r (IsMergeRefusal key refuses was.kept.entries theta left) → IfErr r (IsMergeRefusal key refuses first.kept.entries theta listing)
      rest_refused r = if_err r _ _ (λ kind. refused_earlier key refuses listing first.kept.entries left was.kept.entries ordered theta kind (rw (same, same_left) so_far.merging))

    -- the entries that are unread, from a hash on
    module _ (unread : List X) (from : ℕ) {lesser : ℕ} (so_far : IsMergedBut key merges refuses theta ordered listing first (at_or_above key unread from) now) (lesser_is : lesser ≡ min theta now.kept.theta) where
      -- if nothing is still read, all is merged
      pub merged_all : still_read key ordered lesser unread ≡ [] → HasMerged key merges refuses listing theta first now
      merged_all none = folds_none key merges refuses (2 ^ first.lg_nom) from theta lesser unread now.kept ordered lesser_is none ∙ so_far.rest

      module _ {x : X} {left : List X} (read : still_read key ordered lesser unread ≡ x ∷ left) where
        still_left : IsMergedBut key merges refuses theta ordered listing first (at_or_above key (x ∷ left) from) now
        still_left =
            let is : still_read key ordered (min theta now.kept.theta) unread ≡ x ∷ left = rw (← lesser_is) read in
            subst (λ ys. IsMergedBut key merges refuses theta ordered listing first (at_or_above key ys from) now) is (record {
              rest = still_folds key merges refuses (2 ^ first.lg_nom) from theta now.kept ordered unread ∙ so_far.rest;
              made_with = so_far.made_with;
              merging = still_merging key merges refuses listing first.kept.entries now.kept.entries from (min theta now.kept.theta) unread ordered so_far.merging;
            })

        -- if the next entry is past the lesser theta, in order, all is merged
        pub merged_below : (ordered ≡ true) × (lesser ≤ key x) → HasMerged key merges refuses listing theta first now
        merged_below past =
            let merging = subst (λ b. IsMerging key listing first.kept.entries (at_or_above key (x ∷ left) from) now.kept.entries b) past.0 still_left.merging in
            sym (folds_stop_from key merges refuses (2 ^ first.lg_nom) from theta listing first.kept.entries left x now.kept merging (rw (← lesser_is) past.1)) ∙ still_left.rest

        passed_read : (key x < from) ⊎ (theta ≤ key x) → IsMergedBut key merges refuses theta ordered listing first (at_or_above key left from) now
        passed_read (inl lt) = subst (λ ys. IsMergedBut key merges refuses theta ordered listing first ys now) (at_or_above_passed key from left x lt) still_left
        passed_read (inr high) =
            let others = at_or_above key left from in
            (elim (leb from (key x)) as (λ b. IsMergedBut key merges refuses theta ordered listing first (cond b (x ∷ others) others) now → IsMergedBut key merges refuses theta ordered listing first others now) [
              | true ↦ λ it. merge_passes x it (inr high)
              | false ↦ λ it. it
            ]) still_left

        pub is_read : KeepsKey key merges → IsApart key unread → IsRead so_far from x left
        is_read keeps apart = record {
          apart = subst (λ ys. IsApart key ys) read (apart-still key ordered lesser unread apart);
          whole = still_left;
          passed = passed_read;
          next = λ hash hash_is high low. is_next still_left keeps (at_or_above_front key from (x ∷ left) left x refl (omega (arith, hash_is, high))) hash_is low;
        }

-- the same, if an entry is in front of those left from a hash on
pub merged_from : {X : Type 0} {key : X → ℕ} {merges : X → X → X} {refuses : X → X → Bool} {theta : ℕ} {ordered : Bool} {listing : List X} {first : MapTable X} {now : MapTable X} (from lesser : ℕ) (x : X) (unread left : List X)
    → IsMergedBut key merges refuses theta ordered listing first (at_or_above key unread from) now → lesser ≡ min theta now.kept.theta → unread ≡ x ∷ left → (ordered ≡ true) × (lesser ≤ key x) → HasMerged key merges refuses listing theta first now
merged_from {key = key} from lesser x unread left so_far lesser_is shape past = merged_below unread from so_far lesser_is (ap (λ b. still_read key b lesser unread) past.0 ∙ shape) past

-- if the next entry is past the lesser theta, in order, all is merged
pub merged_in_order : {X : Type 0} {key : X → ℕ} {merges : X → X → X} {refuses : X → X → Bool} {theta : ℕ} {listing : List X} {first : MapTable X} {unread left : List X} {now : MapTable X} {x : X}
    → IsMergedBut key merges refuses theta true listing first unread now → unread ≡ x ∷ left → min theta now.kept.theta ≤ key x → HasMerged key merges refuses listing theta first now
merged_in_order {X} {key} {merges} {refuses} {theta} {listing} {first} {unread} {left} {now} {x} so_far shape past =
    let merging : IsMerging key listing first.kept.entries (x ∷ left) now.kept.entries true = rw (← shape) so_far.merging in
    sym (folds_stop key merges refuses (2 ^ first.lg_nom) theta listing first.kept.entries left x now.kept merging past) ∙ rw shape at so_far.rest

-- fewer entries are left once one was read
pub read_fewer : {X : Type 0} (key : X → ℕ) (ordered : Bool) (t : ℕ) (unread : List X) {left : List X} {x : X} → still_read key ordered t unread ≡ x ∷ left → length left < length unread
read_fewer key ordered t unread read = omega (arith, ap length read, still_fewer key ordered t unread)
