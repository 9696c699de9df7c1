-- The entries of a map after a cut.
use Rattle.std.proofs.Common.{◌≡◌, ℕ, zero, suc, ◌<◌, ◌≤◌, Bool, true, false, eqb, List, [], ◌∷◌, length, get_or, take, Some, None, refl, sym, ap, ◌∙◌, arith, inl, inr}
use Rattle.std.specs.List.{find, AllByRecursion}
use Rattle.std.proofs.lemmas.Bool.{cases_lt, lt-ltb}
use Rattle.std.proofs.lemmas.Bool.Decides.{nat_tests}
use Rattle.std.proofs.lemmas.List.{get_or-take}
use Rattle.std.proofs.lemmas.List.Sums.{length-filter}
use Rattle.core_laws.specs.Maps.{IsAscending, below, rank, key_of_rank}
use Rattle.core_laws.specs.Cuts.{retained, cut}
use Rattle.core_laws.proofs.maps.Ascending.{each-weaker, each-get_or, filter_each, ascending-head, ascending-tail, ascending-filter, Parts, below_parts, rank_parts, parts_at}

module _ {X : Type 0} where
  find_at_place : (p : X → Bool) (xs : List X) (j : ℕ) (d : X) → j < length xs → ((e : X) → p (get_or xs j e) ≡ true) → ((i : ℕ) (e : X) → i < j → p (get_or xs i e) ≡ false) → find p xs ≡ Some (get_or xs j d)
  find_at_place p [] j d lt present before = absurd (omega arith)
  find_at_place p (x ∷ xs) zero d lt present before = rw (present d) refl
  find_at_place p (x ∷ xs) (suc j) d lt present before = rw (before zero d (omega arith)) (find_at_place p xs j d (omega arith) present (λ i e less. before (suc i) e (omega arith)))

  find_nowhere : (p : X → Bool) (xs : List X) → ((i : ℕ) (e : X) → i < length xs → p (get_or xs i e) ≡ false) → find p xs ≡ None
  find_nowhere p [] fails = refl
  find_nowhere p (x ∷ xs) fails = rw (fails zero x (omega arith)) (find_nowhere p xs (λ i e lt. fails (suc i) e (omega arith)))

module _ {X : Type 0} (key : X → ℕ) where
  -- the keys below t are first
  parts_exist : (xs : List X) (t : ℕ) → IsAscending key xs → (n : ℕ) × Parts key xs t n
  parts_exist [] t up = (0, record { within = omega arith; smaller = λ k d lt. absurd (omega arith); others = λ k d le lt. absurd (omega arith) })
  parts_exist (x ∷ xs) t up =
      let tail : (n : ℕ) × Parts key xs t n = parts_exist xs t (ascending-tail key x xs up) in
      elim (cases_lt (key x) t) [
        | inl lt ↦ (
          suc tail.0,
          record {
            within = omega (arith, tail.1.within);
            smaller = elim [ zero ↦ λ d l. lt | suc k ↦ λ d l. tail.1.smaller k d (omega arith) ];
            others = elim [ zero ↦ λ d l m. absurd (omega arith) | suc k ↦ λ d l m. tail.1.others k d (omega arith) (omega arith) ];
          },
        )
        | inr le ↦ (
          0,
          record {
            within = omega arith;
            smaller = λ k d l. absurd (omega arith);
            others = elim [ zero ↦ λ d l m. le | suc k ↦ λ d l m. omega (arith, le, each-get_or (λ y. key x < key y) xs k d (omega arith) (ascending-head key x xs up)) ];
          },
        )
      ]

  -- the rank of a key parts a map: the keys before it are smaller, the others are not
  pub parts_rank : (xs : List X) (t : ℕ) → IsAscending key xs → Parts key xs t (rank key xs t)
  parts_rank xs t up =
      let parts : (n : ℕ) × Parts key xs t n = parts_exist xs t up in
      rw (rank_parts key xs t parts.0 parts.1) parts.1

  -- the entries below a key are as many first ones as its rank
  pub below_rank : (xs : List X) (t : ℕ) → IsAscending key xs → below key xs t ≡ take (rank key xs t) xs
  below_rank xs t up = below_parts key xs t _ (parts_rank xs t up)

  -- the rank of the key at a position of a map is the position
  pub rank_at : (xs : List X) (i : ℕ) (d : X) → IsAscending key xs → i < length xs → rank key xs (key (get_or xs i d)) ≡ i
  rank_at xs i d up lt = rank_parts key xs _ i (parts_at key xs i d up lt)

  -- the key of rank k is the key at place k
  key_of_rank_at : (k : ℕ) (xs : List X) (t : ℕ) (d : X) → IsAscending key xs → k < length xs → key_of_rank key k xs t ≡ key (get_or xs k d)
  key_of_rank_at k xs t d up lt =
      let found = find_at_place (λ x. eqb (rank key xs (key x)) k) xs k d lt
      (λ e. rw (rank_at xs k e up lt) (grind (arith, nat_tests)))
      (λ i e less. rw (rank_at xs i e up (omega arith)) (grind (arith, nat_tests))) in
      rw found refl

  key_of_rank_past : (k : ℕ) (xs : List X) (t : ℕ) → IsAscending key xs → length xs ≤ k → key_of_rank key k xs t ≡ t
  key_of_rank_past k xs t up le =
      let absent = find_nowhere (λ x. eqb (rank key xs (key x)) k) xs (λ i e less. rw (rank_at xs i e up less) (grind (arith, nat_tests))) in
      rw absent refl

  pub length-below : (xs : List X) (t : ℕ) → length (below key xs t) ≡ rank key xs t
  length-below xs t = length-filter _ xs

  -- more than k keys are below t: the first k stay, below the next
  pub cut_more : (k : ℕ) (xs : List X) (t : ℕ) (d : X) → IsAscending key xs → k < rank key xs t → cut key k xs t ≡ record { entries = take k xs; theta = key (get_or xs k d) }
  unfolding cut
  cut_more k xs t d up lt =
      let parts = parts_rank xs t up in
      let in_range : k < length xs = omega (arith, parts.within) in
      let theta : key_of_rank key k (below key xs t) t ≡ key (get_or xs k d) =
      key_of_rank_at k (below key xs t) t d (ascending-filter key _ xs up) (rw (length-below xs t) lt)
      ∙ ap (λ ys. key (get_or ys k d)) (below_rank xs t up) ∙ ap key (get_or-take (rank key xs t) xs k d lt) in
      ap (retained key xs) theta ∙ ap (λ ys. record { entries = ys; theta = key (get_or xs k d) }) (below_parts key xs _ k (parts_at key xs k d up in_range))

  -- at most k keys are below t: all of them stay
  pub cut_few : (k : ℕ) (xs : List X) (t : ℕ) → IsAscending key xs → rank key xs t ≤ k → cut key k xs t ≡ retained key xs t
  unfolding cut
  cut_few k xs t up le = ap (retained key xs) (key_of_rank_past k (below key xs t) t (ascending-filter key _ xs up) (rw (length-below xs t) le))

  -- if all keys are below t
  pub below_all : (xs : List X) (t : ℕ) → AllByRecursion (λ x. key x < t) xs → below key xs t ≡ xs
  below_all xs t all = filter_each _ xs (each-weaker _ _ (λ x lt. lt-ltb _ _ lt) xs all)

  -- the rank of a bound above all keys is the number of entries
  pub rank_all : (xs : List X) (t : ℕ) → AllByRecursion (λ x. key x < t) xs → rank key xs t ≡ length xs
  rank_all xs t all = sym (length-below xs t) ∙ ap length (below_all xs t all)

  -- a cut keeps the entries below its theta
  pub cut_is_below : (k : ℕ) (xs : List X) (t : ℕ) → cut key k xs t ≡ retained key xs (cut key k xs t).theta
  unfolding cut
  cut_is_below k xs t = refl
