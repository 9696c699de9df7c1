-- Lists of entries as maps: each key once, ascending, whatever the order of the list.
use Rattle.std.proofs.Common.{◌≡◌, ℕ, ◌<◌, ◌≢◌, true, false, List, [], ◌∷◌, length, get_or, map, refl, sym, zero, suc, arith, eqb, eq-eqb, cond, Some, None, ap, ◌∙◌}
use Rattle.std.specs.List.{AllByRecursion, AllPairs, IsDistinct, All}
use Rattle.std.proofs.lemmas.Bool.{ne_eqb}
use Rattle.std.proofs.lemmas.Bool.Decides.{nat_tests}
use Rattle.std.proofs.lemmas.List.{length-map}
use Rattle.std.proofs.lemmas.Map.Keys.{IsDistinct-from_apart, apart_from_distinct}
use Rattle.core_laws.specs.Maps.{IsAscending, entry_at, IsApart, map_of, IsListing}
use Rattle.core_laws.proofs.maps.Ascending.{ascending-head, ascending-tail, ascending-nil, ascending-with_entry, ascending-cons, each-get_or}
use Rattle.core_laws.proofs.maps.LookUps.{entry_at-with_entry, entry_at_past, same_map}
use Rattle.std.proofs.Math.ListN.{get_or-map}
use Rattle.core_laws.proofs.maps.Insertions.{entry_absent}
use Rattle.std.proofs.lemmas.List.Sorted.{IsPermutation-refl, All-permutation}

-- a sorted copy of the hashes ascends exactly if no two are equal
pub apart : (xs : List ℕ) → AllPairs (λ x y. x ≢ y) xs → IsDistinct eqb xs
apart xs pairs = IsDistinct-from_apart eqb xs (λ i j d lt in_range. ne_eqb _ _ (pairs i j d lt in_range))

-- hashes that a test finds different are pairwise different
pub pairs_of : (xs : List ℕ) → IsDistinct eqb xs → AllPairs (λ x y. x ≢ y) xs
pairs_of xs different = λ i j d lt in_range same.
    let differ = apart_from_distinct eqb xs i j d different lt in_range in
    let present : eqb (get_or xs i d) (get_or xs j d) ≡ true = eq-eqb _ _ same in
    cc

module _ {X : Type 0} (key : X → ℕ) where
  pub ascending-apart : (xs : List X) → IsAscending key xs → IsApart key xs
  ascending-apart [] up = tt
  ascending-apart (x ∷ xs) up = (entry_at_past key xs (key x) (ascending-head key x xs up), ascending-apart xs (ascending-tail key x xs up))

module _ {X : Type 0} (key : X → ℕ) where
  pub each-map : (P : ℕ → Type 0) (xs : List X) → AllByRecursion (λ x. P (key x)) xs → AllByRecursion P (map key xs)
  each-map P [] all = tt
  each-map P (x ∷ xs) all = (all.0, each-map P xs all.1)

  pub each-from_map : (P : ℕ → Type 0) (xs : List X) → AllByRecursion P (map key xs) → AllByRecursion (λ x. P (key x)) xs
  each-from_map P [] all = tt
  each-from_map P (x ∷ xs) all = (all.0, each-from_map P xs all.1)

  pub ascending-map : (xs : List X) → IsAscending key xs → IsAscending (λ h. h) (map key xs)
  ascending-map [] up = ascending-nil (λ h. h)
  ascending-map (x ∷ xs) up = ascending-cons (λ h. h) (key x) (map key xs) (each-map (λ h. key x < h) xs (ascending-head key x xs up)) (ascending-map xs (ascending-tail key x xs up))

module _ {X : Type 0} (key : X → ℕ) where
  pub entry_at-map_of : (xs : List X) (q : ℕ) → entry_at key (map_of key xs) q ≡ entry_at key xs q
  entry_at-map_of [] q = refl
  entry_at-map_of (x ∷ xs) q = entry_at-with_entry key (map_of key xs) x q ∙ ap (λ o. cond (eqb (key x) q) (Some x) o) (entry_at-map_of xs q)

  pub ascending-map_of : (xs : List X) → IsAscending key (map_of key xs)
  ascending-map_of [] = ascending-nil key
  ascending-map_of (x ∷ xs) = ascending-with_entry key (map_of key xs) x (ascending-map_of xs)

module _ {X : Type 0} (key : X → ℕ) where
  pub apart-distinct : (xs : List X) → AllPairs (λ (x y : ℕ). x ≢ y) (map key xs) → IsApart key xs
  apart-distinct [] distinct = tt
  apart-distinct (x ∷ xs) distinct = (
    entry_absent key xs (key x) (λ k d lt same. distinct zero (suc k) (key d) (omega arith) (rw (length-map xs key) (omega (arith, lt))) (sym same ∙ sym (get_or-map key xs k d))),
    apart-distinct xs (λ i j d lt in_range. distinct (suc i) (suc j) d (omega arith) (omega arith)),
  )

  pub ascending-from_map : (xs : List X) → IsAscending (λ (h : ℕ). h) (map key xs) → IsAscending key xs
  ascending-from_map [] up = ascending-nil key
  ascending-from_map (x ∷ xs) up = ascending-cons key x xs (each-from_map key (λ h. key x < h) xs (ascending-head (λ (h : ℕ). h) (key x) (map key xs) up)) (ascending-from_map xs (ascending-tail (λ (h : ℕ). h) (key x) (map key xs) up))

module _ {X : Type 0} (key : X → ℕ) where
  -- entries that ascend are a listing as they are
  pub iterated-ascending : (xs : List X) → IsAscending key xs → IsListing key xs xs
  iterated-ascending xs up = record {
    each_once = IsPermutation-refl xs;
    apart = ascending-apart key xs up;
    same_map = same_map key (map_of key xs) xs (ascending-map_of key xs) up (entry_at-map_of key xs);
  }

  absent_at : (xs : List X) (h j : ℕ) (d : ℕ) → entry_at key xs h ≡ None → j < length (map key xs) → h ≢ get_or (map key xs) j d
  absent_at [] h j d none lt same = absurd (omega arith)
  absent_at (x ∷ xs) h zero d none lt same =
      (elim (eqb (key x) h) as (λ b. eqb (key x) h ≡ b → cond b (Some x) (entry_at key xs h) ≡ None → ⊥) [ true ↦ λ e n. cc | false ↦ λ e n. grind (arith, nat_tests, same) ]) refl none
  absent_at (x ∷ xs) h (suc j) d none lt same =
      (elim (eqb (key x) h) as (λ b. eqb (key x) h ≡ b → cond b (Some x) (entry_at key xs h) ≡ None → ⊥) [ true ↦ λ e n. cc | false ↦ λ e n. absent_at xs h j d n (omega arith) same ]) refl none

  -- entries of different keys have distinct hashes
  pub distinct-apart : (xs : List X) → IsApart key xs → AllPairs (λ x y. x ≢ y) (map key xs)
  distinct-apart [] apart i j d lt in_range = absurd (omega arith)
  distinct-apart (x ∷ xs) apart zero zero d lt in_range = absurd (omega arith)
  distinct-apart (x ∷ xs) apart zero (suc j) d lt in_range = absent_at xs (key x) j d apart.0 (omega arith)
  distinct-apart (x ∷ xs) apart (suc i) zero d lt in_range = absurd (omega arith)
  distinct-apart (x ∷ xs) apart (suc i) (suc j) d lt in_range = distinct-apart xs apart.1 i j d (omega arith) (omega arith)

  each-indexed : (P : X → Type 0) (xs : List X) → All P xs → AllByRecursion P xs
  each-indexed P [] all = tt
  each-indexed P (x ∷ xs) all = (all 0 x (omega arith), each-indexed P xs (λ k d lt. all (suc k) d (omega arith)))

  -- a property of each entry of a map is one of each entry that it lists
  pub each-iterated : (P : X → Type 0) (entries sequence : List X) → IsListing key entries sequence → AllByRecursion P entries → AllByRecursion P sequence
  each-iterated P entries sequence iterated all = each-indexed P sequence (All-permutation P entries sequence iterated.each_once (λ k d lt. each-get_or P entries k d lt all))

  pub each-hash : (P : ℕ → Type 0) (xs : List X) → AllByRecursion (λ x. P (key x)) xs → AllByRecursion P (map key xs)
  each-hash P [] all = tt
  each-hash P (x ∷ xs) all = (all.0, each-hash P xs all.1)

  pub nothing : (xs : List X) → length xs ≡ 0 → xs ≡ []
  nothing [] e = refl
  nothing (x ∷ xs) e = absurd (omega arith)
