-- Tests on hashes, and the facts that they decide.
use Rattle.std.proofs.Common.{◌≡◌, ℕ, ◌<◌, ◌≤◌, ◌≢◌, ◌^◌, Bool, true, false, ◌&&◌, List, [], ◌∷◌, length, get_or, map, refl, sym, ap, subst, ◌∙◌, Some, ◌+◌, ◌-◌, zero, suc, arith, eqb, ltb, Less}
use Rattle.std.specs.Bool.{Decides}
use Rattle.std.specs.List.{AllByRecursion, AllPairs, IsAllAdjacentAnswer, slice_get}
use Rattle.std.specs.Option.{unwrap_or}
use Rattle.std.specs.List.Sorted.{IsPermutation, IsSorted, IsStrictlySortedBy, IsNonDecreasing}
use Rattle.std.specs.Ordering.{nat_cmp}
use Rattle.std.proofs.lemmas.Bool.{ltb-true, lt-ltb}
use Rattle.std.proofs.lemmas.Bool.Decides.{nat_tests}
use Rattle.std.proofs.lemmas.List.Sorted.{IsNonDecreasingBy-from_sort, IsPermutation-sym}
use Rattle.std.proofs.lemmas.Map.Keys.{IsDistinct-IsPermutation, IsStrictlyIncreasing-from_distinct, sorted_from_strictly_increasing, sorted_head, sorted_tail}
use Rattle.core_compact.specs.CompactState.{shown_of}
use Rattle.core_laws.specs.Maps.{IsAscending}
use Rattle.core_images.specs.Entry.{state_after_preamble}
use Rattle.core_images.specs.Check.{ascends_from, is_ascending, are_below, AreHashes}
use Rattle.core_laws.specs.Shown.{IsShown}
use Rattle.core_images.specs.declared.preamble.Preamble.{Preamble}
use Rattle.core_laws.proofs.maps.Ascending.{ascending_at}
use Rattle.core_laws.proofs.maps.MapsOfLists.{apart, pairs_of}

both : (a b : Bool) → (a && b) ≡ true → (a ≡ true) × (b ≡ true)
both true b e = (refl, e)
both false b e = absurd (cc)

each-weaker : (P Q : ℕ → Type 0) → ((x : ℕ) → P x → Q x) → (xs : List ℕ) → AllByRecursion P xs → AllByRecursion Q xs
each-weaker P Q f [] all = tt
each-weaker P Q f (x ∷ xs) all = (f x all.0, each-weaker P Q f xs all.1)

ascends_up : (t : ℕ) (xs : List ℕ) → ascends_from t xs ≡ true → AllByRecursion (λ y. t < y) xs × IsAscending (λ h. h) xs
unfolding IsAscending
ascends_up t [] e = (tt, tt)
ascends_up t (x ∷ xs) e =
    let parts = both (ltb t x) (ascends_from x xs) e in
    let lt = ltb-true t x parts.0 in
    let rest = ascends_up x xs parts.1 in
    ((lt, each-weaker (λ y. x < y) (λ y. t < y) (λ y less. omega (arith, lt, less)) xs rest.0), (rest.0, rest.1))

up_ascends : (t : ℕ) (xs : List ℕ) → AllByRecursion (λ y. t < y) xs → IsAscending (λ h. h) xs → ascends_from t xs ≡ true
unfolding IsAscending
up_ascends t [] a up = refl
up_ascends t (x ∷ xs) a up = rw (lt-ltb t x a.0) (up_ascends x xs up.0 up.1)

ascending_from : (xs : List ℕ) → is_ascending xs ≡ true → IsAscending (λ h. h) xs
unfolding IsAscending
ascending_from [] e = tt
ascending_from (x ∷ xs) e = ascends_up x xs e

is_ascending_from : (xs : List ℕ) → IsAscending (λ h. h) xs → is_ascending xs ≡ true
unfolding IsAscending
is_ascending_from [] up = refl
is_ascending_from (x ∷ xs) up = up_ascends x xs up.0 up.1

distinct_from : (xs : List ℕ) → IsAscending (λ h. h) xs → AllPairs (λ x y. x ≢ y) xs
distinct_from xs up = λ i j d lt in_range same. omega (arith, ascending_at (λ h. h) xs i j d up lt in_range, same)

within_from : (theta : ℕ) (xs : List ℕ) → are_below theta xs ≡ true → AllByRecursion (λ h. 0 < h) xs × AllByRecursion (λ h. h < theta) xs
within_from theta [] e = (tt, tt)
within_from theta (x ∷ xs) e =
    let parts = both (ltb 0 x && ltb x theta) (are_below theta xs) e in
    let ends = both (ltb 0 x) (ltb x theta) parts.0 in
    let rest = within_from theta xs parts.1 in
    ((ltb-true _ _ ends.0, rest.0), (ltb-true _ _ ends.1, rest.1))

from_within : (theta : ℕ) (xs : List ℕ) → AllByRecursion (λ h. 0 < h) xs → AllByRecursion (λ h. h < theta) xs → are_below theta xs ≡ true
from_within theta [] a b = refl
from_within theta (x ∷ xs) a b = rw (lt-ltb 0 x a.0, lt-ltb x theta b.0) (from_within theta xs a.1 b.1)

-- the four results of the check
pub outside : (theta : ℕ) (ordered : Bool) (xs : List ℕ) → are_below theta xs ≡ false → Decides false (AreHashes theta ordered xs)
outside theta ordered xs e = (λ f. absurd (cc), λ good. let w = from_within theta xs good.nonzero good.below_theta in cc)

pub in_order : (theta : ℕ) (ordered : Bool) (xs : List ℕ) → are_below theta xs ≡ true → is_ascending xs ≡ true → Decides true (AreHashes theta ordered xs)
in_order theta ordered xs e r =
    let up = ascending_from xs r in
    let within = within_from theta xs e in
    (λ f. record { distinct = distinct_from xs up; nonzero = within.0; below_theta = within.1; ascending = λ o. up }, λ good. refl)

pub by_distinct : (theta : ℕ) (xs : List ℕ) (b : Bool) → are_below theta xs ≡ true → Decides b (AllPairs (λ x y. x ≢ y) xs) → Decides b (AreHashes theta false xs)
by_distinct theta xs b e d =
    let within = within_from theta xs e in
    (λ yes. record { distinct = d.0 yes; nonzero = within.0; below_theta = within.1; ascending = λ o. absurd (cc) }, λ good. d.1 good.distinct)

sorted_up : (ys : List ℕ) → IsStrictlySortedBy nat_cmp ys → IsAscending (λ h. h) ys
unfolding IsAscending
sorted_up [] s = tt
sorted_up (y ∷ ys) s = (each-weaker (λ z. nat_cmp y z ≡ Less) (λ z. y < z) (λ z e. grind (arith, nat_tests, e)) ys (sorted_head nat_cmp y ys s), sorted_up ys (sorted_tail nat_cmp y ys s))

pub sorted_apart : (xs ys : List ℕ) → IsPermutation xs ys → IsSorted nat_cmp ys → Decides (is_ascending ys) (AllPairs (λ x y. x ≢ y) xs)
sorted_apart xs ys moved sorted =
    let flips : (x y : ℕ) → eqb x y ≡ eqb y x = λ x y. grind (arith, nat_tests) in
    let steps : IsNonDecreasing ys = IsNonDecreasingBy-from_sort (λ h. h) ys sorted in (
      λ e. pairs_of xs (IsDistinct-IsPermutation eqb flips ys xs (IsPermutation-sym _ _ moved) (apart ys (distinct_from ys (ascending_from ys e)))),
      λ pairs.
          let different = IsDistinct-IsPermutation eqb flips xs ys moved (apart xs pairs) in
          is_ascending_from ys (sorted_up ys (sorted_from_strictly_increasing ys (IsStrictlyIncreasing-from_distinct ys steps different))),
    )

-- std's test of each element and the next returns whether the keys ascend

module _ {X : Type 0} (key : X → ℕ) where
  all_adjacent : (xs : List X) → ((k : ℕ) (d : X) → suc k < length xs → true ≡ ltb (key (get_or xs k d)) (key (get_or xs (suc k) d))) → is_ascending (map key xs) ≡ true
  all_adjacent [] all = refl
  all_adjacent (x ∷ []) all = refl
  all_adjacent (x ∷ y ∷ xs) all =
      let first : true ≡ ltb (key x) (key y) = all zero x (omega arith) in
      rw (← first) (all_adjacent (y ∷ xs) (λ k d lt. all (suc k) d (omega arith)))

  some_adjacent : (xs : List X) (k : ℕ) → suc k < length xs → ((d : X) → false ≡ ltb (key (get_or xs k d)) (key (get_or xs (suc k) d))) → is_ascending (map key xs) ≡ false
  some_adjacent [] k lt fails = absurd (omega arith)
  some_adjacent (x ∷ []) k lt fails = absurd (omega arith)
  some_adjacent (x ∷ y ∷ xs) zero lt fails = rw (← fails x) refl
  some_adjacent (x ∷ y ∷ xs) (suc k) lt fails =
      elim (ltb (key x) (key y)) as (λ b. (b && is_ascending (map key (y ∷ xs))) ≡ false) [ true ↦ some_adjacent (y ∷ xs) k (omega arith) fails | false ↦ refl ]

  one_more : (k : ℕ) → k + 1 ≡ suc k
  one_more k = omega arith

  pub adjacent_answer : (xs : List X) (r : Bool) → IsAllAdjacentAnswer (λ x y b. b ≡ ltb (key x) (key y)) xs r → r ≡ is_ascending (map key xs)
  adjacent_answer xs true all = sym (all_adjacent xs (λ k d lt. subst (λ j. true ≡ ltb (key (get_or xs k d)) (key (get_or xs j d))) (one_more k) (all k d (omega arith))))
  adjacent_answer xs false some =
      sym (some_adjacent xs some.0 (omega (arith, some.1)) (λ d. subst (λ j. false ≡ ltb (key (get_or xs some.0 d)) (key (get_or xs j d))) (one_more some.0) (some.2 d)))

-- the rules of the hashes are the laws of a sketch that shows them

module _ {X : Type 0} (key : X → ℕ) (p : Preamble) (h : ℕ) (xs : List X) where
  pub hashes_from : IsShown (shown_of key (state_after_preamble p h xs)) → AreHashes p.theta p.ordered (map key xs)
  hashes_from shown = record { distinct = shown.distinct; nonzero = shown.nonzero; below_theta = shown.below_theta; ascending = shown.ascending }

-- hashes that ascend from 0, and those that do not

from_zero : (xs : List ℕ) → ascends_from 0 xs ≡ true → is_ascending xs ≡ true
from_zero [] e = refl
from_zero (x ∷ xs) e = (both (ltb 0 x) (ascends_from x xs) e).1

pub up_from_zero : (theta : ℕ) (ordered : Bool) (xs : List ℕ) (b : Bool) → ascends_from 0 xs ≡ true → b ≡ are_below theta xs → Decides b (AreHashes theta ordered xs)
up_from_zero theta ordered xs true e w = in_order theta ordered xs (sym w) (from_zero xs e)
up_from_zero theta ordered xs false e w = outside theta ordered xs (sym w)

pub not_from_zero : (theta : ℕ) (xs : List ℕ) → ascends_from 0 xs ≡ false → Decides false (AreHashes theta true xs)
not_from_zero theta xs e = (λ f. absurd (cc), λ good. let r = up_ascends 0 xs good.nonzero (good.ascending refl) in cc)

and_true : (b : Bool) → (b && true) ≡ b
and_true true = refl
and_true false = refl

and_false : (b : Bool) → (b && false) ≡ false
and_false true = refl
and_false false = refl

some_same : {X : Type 0} (x y : X) → Some x ≡ Some y → x ≡ y
some_same x y e = ap (λ o. unwrap_or o x) e

-- if keys ascend from 0, all are below theta exactly if the last is
module _ {X : Type 0} (key : X → ℕ) (theta : ℕ) where
  with_first : (x y : ℕ) (ys : List ℕ) → 0 < x → x < y → (w : Bool) → are_below theta (y ∷ ys) ≡ w → w ≡ are_below theta (x ∷ y ∷ ys)
  with_first x y ys low less true e =
      let parts = both (ltb 0 y && ltb y theta) (are_below theta ys) e in
      let under = ltb-true y theta (both (ltb 0 y) (ltb y theta) parts.0).1 in
      let lower : x < theta = omega (arith, less, under) in
      sym (rw (lt-ltb 0 x low, lt-ltb x theta lower) e)
  with_first x y ys low less false e = sym (rw e (and_false (ltb 0 x && ltb x theta)))

  of_last : (x : X) (xs : List X) (e : X) (n : ℕ) → n ≡ length xs → Some e ≡ slice_get (x ∷ xs) n → 0 < key x → ascends_from (key x) (map key xs) ≡ true → ltb (key e) theta ≡ are_below theta (map key (x ∷ xs))
  of_last x [] e zero n found low up =
      let same = some_same e x found in
      sym (rw (lt-ltb 0 (key x) low, and_true (ltb (key x) theta)) (ap (λ z. ltb (key z) theta) (sym same)))
  of_last x [] e (suc m) n found low up = absurd (omega (arith, n))
  of_last x (y ∷ xs) e zero n found low up = absurd (omega (arith, n))
  of_last x (y ∷ xs) e (suc m) n found low up =
      let parts = both (ltb (key x) (key y)) (ascends_from (key y) (map key xs)) up in
      let less = ltb-true (key x) (key y) parts.0 in
      let rest = of_last y xs e m (omega (arith, n)) found (omega (arith, low, less)) parts.1 in
      rest ∙ with_first (key x) (key y) (map key xs) low less (are_below theta (map key (y ∷ xs))) refl

  pub last_decides : (xs : List X) (e : X) → Some e ≡ slice_get xs (length xs - 1) → ascends_from 0 (map key xs) ≡ true → ltb (key e) theta ≡ are_below theta (map key xs)
  last_decides [] e found up = absurd (cc)
  last_decides (x ∷ xs) e found up =
      let parts = both (ltb 0 (key x)) (ascends_from (key x) (map key xs)) up in
      of_last x xs e (length (x ∷ xs) - 1) (omega arith) found (ltb-true 0 (key x) parts.0) parts.1
