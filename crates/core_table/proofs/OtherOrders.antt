-- Entries in another order: sorted, permuted.
use Rattle.std.proofs.Common.{◌≡◌, ℕ, zero, suc, ◌<◌, ◌≤◌, ◌≢◌, Bool, true, false, cond, not, ltb, eqb, List, [], ◌∷◌, ◌++◌, length, get_or, map, Some, None, refl, sym, ap, ◌∙◌, subst, arith}
use Rattle.std.specs.List.{filter, AllByRecursion, AllPairs, Contains}
use Rattle.std.specs.List.Sorted.{IsPermutation, IsNonDecreasingBy}
use Rattle.std.proofs.lemmas.Bool.Decides.{nat_tests}
use Rattle.std.proofs.lemmas.List.Sorted.{IsPermutation-refl, IsPermutation-sym, IsPermutation-trans, IsPermutation-cons, IsPermutation-middle, IsPermutation-map, IsPermutation-filter_both, Contains-permutation}
use Rattle.std.proofs.lemmas.Map.Keys.{IsDistinct-IsPermutation}
use Rattle.core_laws.specs.Maps.{IsAscending, IsApart, below, above, entry_at, map_of}
use Rattle.core_laws.proofs.maps.Ascending.{ascending-nil, ascending-cons, each-with_entry}
use Rattle.core_laws.proofs.maps.MapsOfLists.{apart, pairs_of, distinct-apart, apart-distinct, entry_at-map_of, ascending-map_of}
use Rattle.core_laws.proofs.maps.LookUps.{entry_at_head, entry_at_rest, same_map}
use Rattle.core_laws.proofs.cuts.WithinWholeMaps.{found_key}

module _ {X : Type 0} where
  filter-agree_each : (p q : X → Bool) (xs : List X) → AllByRecursion (λ x. p x ≡ q x) xs → filter p xs ≡ filter q xs
  filter-agree_each p q [] all = refl
  filter-agree_each p q (x ∷ xs) all = ap (λ b. cond b (x ∷ filter p xs) (filter p xs)) all.0 ∙ ap (λ zs. cond (q x) (x ∷ zs) zs) (filter-agree_each p q xs all.1)

  none_some : {x : X} → None ≡ Some x → ⊥
  none_some e = cc

  same_some : {x y : X} → Some x ≡ Some y → x ≡ y
  same_some e = cc

-- numbers that differ still do in another order
pairs_moved : (xs ys : List ℕ) → IsPermutation xs ys → AllPairs (λ x y. x ≢ y) xs → AllPairs (λ x y. x ≢ y) ys
pairs_moved xs ys moved pairs =
    let flips : (x y : ℕ) → eqb x y ≡ eqb y x = λ x y. grind (arith, nat_tests) in
    pairs_of ys (IsDistinct-IsPermutation eqb flips xs ys moved (apart xs pairs))

module _ {X : Type 0} (key : X → ℕ) where
  -- an entry of entries of different keys is the one at its key
  contained : (xs : List X) (x : X) → IsApart key xs → Contains xs x → entry_at key xs (key x) ≡ Some x
  contained [] x each there = absurd (omega (arith, there.1))
  contained (y ∷ xs) x each (zero, lt, is) = entry_at_head key y xs (key x) (ap key is) ∙ ap Some is
  contained (y ∷ xs) x each (suc k, lt, is) =
      let later : entry_at key xs (key x) ≡ Some x = contained xs x each.1 (k, omega (arith, lt), is) in
      let differs : key y ≢ key x = λ (tie : key y ≡ key x). none_some (sym (subst (λ (h : ℕ). entry_at key xs h ≡ None) tie each.0) ∙ later) in
      entry_at_rest key y xs (key x) differs ∙ later

  found_contains : (xs : List X) (q : ℕ) (x : X) → entry_at key xs q ≡ Some x → Contains xs x
  found_contains [] q x found = absurd (none_some found)
  found_contains (y ∷ xs) q x found =
      (elim (eqb (key y) q) as (λ b. cond b (Some y) (entry_at key xs q) ≡ Some x → Contains (y ∷ xs) x) [
        | true ↦ λ e. (zero, omega arith, same_some e)
        | false ↦ λ e. let later = found_contains xs q x e in (suc later.0, omega (arith, later.1), later.2)
      ]) found

  found_moved : (xs ys : List X) (q : ℕ) (x : X) → IsPermutation xs ys → IsApart key ys → entry_at key xs q ≡ Some x → entry_at key ys q ≡ Some x
  found_moved xs ys q x moved each found =
      subst (λ (h : ℕ). entry_at key ys h ≡ Some x) (found_key key xs q x found) (contained ys x each (Contains-permutation xs ys x moved (found_contains xs q x found)))

  -- the order of entries with distinct keys doesn't change the entry at a key
  entry_at-moved : (xs ys : List X) (q : ℕ) → IsPermutation xs ys → IsApart key xs → IsApart key ys → entry_at key xs q ≡ entry_at key ys q
  entry_at-moved xs ys q moved each_x each_y =
      (elim (entry_at key xs q) as (λ o. entry_at key xs q ≡ o → o ≡ entry_at key ys q) [
        | Some x ↦ λ e. sym (found_moved xs ys q x moved each_y e)
        | None ↦ λ e.
            (elim (entry_at key ys q) as (λ o. entry_at key ys q ≡ o → None ≡ o) [
              | Some y ↦ λ f. absurd (none_some (sym e ∙ found_moved ys xs q y (IsPermutation-sym xs ys moved) each_x f))
              | None ↦ λ f. refl
            ]) refl
      ]) refl

  pub apart-moved : (xs ys : List X) → IsPermutation xs ys → IsApart key xs → IsApart key ys
  apart-moved xs ys moved each = apart-distinct key ys (pairs_moved (map key xs) (map key ys) (IsPermutation-map key xs ys moved) (distinct-apart key xs each))

  steps_tail : (x : X) (xs : List X) → IsNonDecreasingBy key (x ∷ xs) → IsNonDecreasingBy key xs
  steps_tail x xs steps = λ i j d le lt. steps (suc i) (suc j) d (omega arith) (omega arith)

  steps_head : (x : X) (xs ys : List X) → ((j : ℕ) (d : X) → j < length ys → key x ≤ key (get_or ys j d)) → entry_at key ys (key x) ≡ None → AllByRecursion (λ y. key x < key y) ys
  steps_head x xs [] le none = tt
  steps_head x xs (y ∷ ys) le none =
      (elim (eqb (key y) (key x)) as (λ b. eqb (key y) (key x) ≡ b → cond b (Some y) (entry_at key ys (key x)) ≡ None → AllByRecursion (λ y. key x < key y) (y ∷ ys)) [
        | true ↦ λ e n. absurd (none_some (sym n))
        | false ↦ λ e n. (grind (arith, nat_tests, le zero y (omega arith)), steps_head x xs ys (λ j d lt. le (suc j) d (omega arith)) n)
      ]) refl none

  -- keys that differ and never fall ascend
  ascending-steps : (xs : List X) → IsNonDecreasingBy key xs → IsApart key xs → IsAscending key xs
  ascending-steps [] steps each = ascending-nil key
  ascending-steps (x ∷ xs) steps each =
      ascending-cons key x xs (steps_head x xs xs (λ j d lt. steps zero (suc j) d (omega arith) (omega arith)) each.0) (ascending-steps xs (steps_tail x xs steps) each.1)

  -- entries with distinct keys, sorted, are the map that they make
  pub sorted_map : (xs ys : List X) → IsPermutation xs ys → IsNonDecreasingBy key ys → IsApart key xs → ys ≡ map_of key xs
  sorted_map xs ys moved steps each =
      let each_y : IsApart key ys = apart-moved xs ys moved each in
      same_map key ys (map_of key xs) (ascending-steps ys steps each_y) (ascending-map_of key xs) (λ q. sym (entry_at-moved xs ys q moved each each_y) ∙ sym (entry_at-map_of key xs q))

  -- entries that ascend are the map that they make
  pub map_of-ascending : (xs : List X) → IsAscending key xs → map_of key xs ≡ xs
  map_of-ascending xs up = same_map key (map_of key xs) xs (ascending-map_of key xs) up (entry_at-map_of key xs)

  pub each-map_of : (P : X → Type 0) (xs : List X) → AllByRecursion P xs → AllByRecursion P (map_of key xs)
  each-map_of P [] all = tt
  each-map_of P (x ∷ xs) all = each-with_entry key P (map_of key xs) x (each-map_of P xs all.1) all.0

  absent_each : (xs : List X) (q : ℕ) → entry_at key xs q ≡ None → AllByRecursion (λ y. ltb q (key y) ≡ not (ltb (key y) q)) xs
  absent_each [] q none = tt
  absent_each (x ∷ xs) q none =
      (elim (eqb (key x) q) as (λ b. eqb (key x) q ≡ b → cond b (Some x) (entry_at key xs q) ≡ None → AllByRecursion (λ y. ltb q (key y) ≡ not (ltb (key y) q)) (x ∷ xs)) [
        | true ↦ λ e n. absurd (none_some (sym n))
        | false ↦ λ e n. (grind (arith, nat_tests), absent_each xs q n)
      ]) refl none

  parts_of : (xs : List X) (q : ℕ) → entry_at key xs q ≡ None → IsPermutation xs (below key xs q ++ above key xs q)
  parts_of xs q none =
      rw (filter-agree_each (λ y. ltb q (key y)) (λ y. not (ltb (key y) q)) xs (absent_each xs q none)) (IsPermutation-filter_both (λ y. ltb (key y) q) (λ y. not (ltb (key y) q)) (λ y. refl) xs)

  -- the map of entries with distinct keys has each of them once
  pub map_of-moved : (xs : List X) → IsApart key xs → IsPermutation (map_of key xs) xs
  map_of-moved [] each = IsPermutation-refl []
  map_of-moved (x ∷ xs) each =
      let m = map_of key xs in
      let h = key x in
      IsPermutation-trans _ _ _ (IsPermutation-middle (below key m h) x (above key m h))
      (IsPermutation-cons x (below key m h ++ above key m h) xs
      (IsPermutation-trans _ _ _ (IsPermutation-sym _ _ (parts_of m h (entry_at-map_of key xs h ∙ each.0))) (map_of-moved xs each.1)))
