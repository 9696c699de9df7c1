-- Hashes by how many are smaller.
use Rattle.std.proofs.Common.{◌≡◌, ℕ, suc, ◌+◌, ◌<◌, ◌≤◌, true, false, cond, eqb, ltb, IsSome, List, [], ◌∷◌, ◌++◌, length, get_or, map, take, min, Option, Some, None, inl, inr, refl, sym, ap, ◌∙◌, subst, arith}
use Rattle.std.specs.List.{count_by}
use Rattle.std.specs.List.Sorted.{IsPermutation}
use Rattle.std.proofs.lemmas.Bool.{cases_lt}
use Rattle.std.proofs.lemmas.Bool.Decides.{nat_tests}
use Rattle.std.proofs.lemmas.List.Sums.{length-filter, sum_by-append}
use Rattle.std.proofs.lemmas.List.Sorted.{sum_by-IsPermutation}
use Rattle.std.specs.List.{AllByRecursion}
use Rattle.std.specs.Prelude.{◌*◌, ◌/◌}
use Rattle.core_laws.specs.Maps.{IsAscending, IsApart, below, rank, entry_at, map_of, with_entry}
use Rattle.core_laws.specs.Cuts.{retained, cut}
use Rattle.core_slots.specs.SlotLayout.{filled, slot, is_other, IsOnPath, IsLaidOut}
use Rattle.core_laws.specs.Insertion.{rebuilt}
use Rattle.core_laws.specs.Entries.{hash_key}
use Rattle.core_slots.specs.Rank.{HasRank}
use Rattle.core_laws.proofs.maps.Ascending.{each-get_or, each-with_entry}
use Rattle.core_laws.proofs.cuts.Cuts.{parts_rank, rank_at, rank_all, below_rank, cut_few, cut_more}
use Rattle.core_laws.proofs.maps.MapsOfLists.{entry_at-map_of, ascending-map_of}
use Rattle.core_slots.proofs.SlotLayouts.{found_none, only_there, other_not, search_finds, smaller-with_entry, length-with_entry}
use Rattle.core_laws.proofs.insertions.Cases.{rebuilt_full}

-- ---- of a list and its parts
few_step : (xs : List ℕ) (h : ℕ) → entry_at hash_key xs h ≡ None → length (below hash_key xs (suc h)) ≡ length (below hash_key xs h)
few_step [] h none = refl
few_step (x ∷ xs) h none =
    (elim (eqb x h) as (λ b. eqb x h ≡ b → cond b (Some x) (entry_at hash_key xs h) ≡ None → length (below hash_key (x ∷ xs) (suc h)) ≡ length (below hash_key (x ∷ xs) h)) [
      | true ↦ λ e n. absurd (cc)
      | false ↦ λ e n.
          let rest = few_step xs h n in
          elim (cases_lt x h) [
            | inl lt ↦ let a : ltb x h ≡ true = grind (arith, nat_tests) in let b : ltb x (suc h) ≡ true = grind (arith, nat_tests) in rw (a, b) (ap suc rest)
            | inr ge ↦ let a : ltb x h ≡ false = grind (arith, nat_tests) in let b : ltb x (suc h) ≡ false = grind (arith, nat_tests) in rw (a, b) rest
          ]
    ]) refl none

-- of hashes that are distinct at most one is h
one_step : (xs : List ℕ) (h : ℕ) → IsApart hash_key xs → length (below hash_key xs (suc h)) ≤ length (below hash_key xs h) + 1
one_step [] h each = omega arith
one_step (x ∷ xs) h each =
    let rest = one_step xs h each.1 in
    (elim (eqb x h) as (λ b. eqb x h ≡ b → length (below hash_key (x ∷ xs) (suc h)) ≤ length (below hash_key (x ∷ xs) h) + 1) [
      | true ↦ λ e.
          let same : x ≡ h = grind (arith, nat_tests) in
          let none : entry_at hash_key xs h ≡ None = subst (λ (n : ℕ). entry_at hash_key xs n ≡ None) same each.0 in
          let a : ltb x h ≡ false = grind (arith, nat_tests) in
          let b : ltb x (suc h) ≡ true = grind (arith, nat_tests) in
          rw (a, b) (omega (arith, few_step xs h none))
      | false ↦ λ e.
          elim (cases_lt x h) [
            | inl lt ↦ let a : ltb x h ≡ true = grind (arith, nat_tests) in let b : ltb x (suc h) ≡ true = grind (arith, nat_tests) in rw (a, b) (omega (arith, rest))
            | inr ge ↦ let a : ltb x h ≡ false = grind (arith, nat_tests) in let b : ltb x (suc h) ≡ false = grind (arith, nat_tests) in rw (a, b) (omega (arith, rest))
          ]
    ]) refl

below_low : (xs : List ℕ) (h : ℕ) → ((k : ℕ) (d : ℕ) → k < length xs → get_or xs k d ≤ h) → length (below hash_key xs (suc h)) ≡ length xs
below_low [] h low = refl
below_low (x ∷ xs) h low =
    let a : ltb x (suc h) ≡ true = let first = low 0 x (omega arith) in grind (arith, nat_tests) in
    rw a (ap suc (below_low xs h (λ k d lt. low (suc k) d (omega (arith, lt)))))

below_most : (xs : List ℕ) (h : ℕ) → length (below hash_key xs h) ≤ length xs
below_most [] h = omega arith
below_most (x ∷ xs) h = elim (ltb x h) as (λ b. length (cond b (x ∷ below hash_key xs h) (below hash_key xs h)) ≤ length (x ∷ xs)) [ true ↦ omega (arith, below_most xs h) | false ↦ omega (arith, below_most xs h) ]

below_none : (xs : List ℕ) (h : ℕ) → ((k : ℕ) (d : ℕ) → k < length xs → h ≤ get_or xs k d) → length (below hash_key xs h) ≡ 0
below_none [] h high = refl
below_none (x ∷ xs) h high =
    let a : ltb x h ≡ false = let first = high 0 x (omega arith) in grind (arith, nat_tests) in
    rw a (below_none xs h (λ k d lt. high (suc k) d (omega (arith, lt))))

count_of : (xs : List ℕ) (h : ℕ) → count_by (λ x. ltb x h) xs ≡ length (below hash_key xs h)
count_of xs h = sym (length-filter (λ x. ltb x h) xs)

counts-append : (xs ys : List ℕ) (h : ℕ) → count_by (λ x. ltb x h) (xs ++ ys) ≡ length (below hash_key xs h) + length (below hash_key ys h)
counts-append xs ys h =
    let a = sum_by-append (λ x. cond (ltb x h) 1 0) xs ys in
    let b = count_of xs h in
    let c = count_of ys h in
    omega (arith, a, b, c)

has_one : (xs ys : List ℕ) (h : ℕ) → IsSome (entry_at hash_key (xs ++ h ∷ ys) h)
has_one [] ys h = let a : eqb h h ≡ true = grind (arith, nat_tests) in rw a refl
has_one (x ∷ xs) ys h = elim (eqb x h) as (λ b. IsSome (cond b (Some x) (entry_at hash_key (xs ++ h ∷ ys) h))) [ true ↦ refl | false ↦ has_one xs ys h ]

-- if h is not among these hashes, as many are at most h as are less
equals_none : (xs : List ℕ) (h : ℕ) → entry_at hash_key xs h ≡ None → count_by (λ x. ltb x (suc h)) xs ≡ count_by (λ x. ltb x h) xs
equals_none xs h none = count_of xs (suc h) ∙ few_step xs h none ∙ sym (count_of xs h)

-- if a list is split around h, with no greater ones before and no smaller ones after, h has the rank of its place
pub split_rank : (hs front back : List ℕ) (h : ℕ) → IsApart hash_key hs → IsPermutation hs (front ++ h ∷ back) → ((k : ℕ) (d : ℕ) → k < length front → get_or front k d ≤ h) → ((k : ℕ) (d : ℕ) → k < length back → h ≤ get_or back k d)
    → HasRank hs (length front) h
split_rank hs front back h each moved low high =
    let same_h = sum_by-IsPermutation (λ x. cond (ltb x h) 1 0) hs (front ++ h ∷ back) moved in
    let same_s = sum_by-IsPermutation (λ x. cond (ltb x (suc h)) 1 0) hs (front ++ h ∷ back) moved in
    let parts_h = counts-append front (h ∷ back) h in
    let parts_s = counts-append front (h ∷ back) (suc h) in
    let step = one_step hs h each in
    let all = below_low front h low in
    let most = below_most front h in
    let none = below_none back h high in
    let not_less : ltb h h ≡ false = grind (arith, nat_tests) in
    let less : ltb h (suc h) ≡ true = grind (arith, nat_tests) in
    let here_h : length (below hash_key (h ∷ back) h) ≡ 0 = rw not_less none in
    let here_s : 1 ≤ length (below hash_key (h ∷ back) (suc h)) = rw less (omega arith) in
    let c_h = count_of hs h in
    let c_s = count_of hs (suc h) in
    let is : count_by (λ x. ltb x h) hs ≡ length front = omega (arith, same_h, same_s, parts_h, parts_s, step, all, most, here_h, here_s, c_h, c_s) in
    let one : IsSome (entry_at hash_key hs h) =
    (elim (entry_at hash_key hs h) as (λ o. entry_at hash_key hs h ≡ o → IsSome o) [
      | Some x ↦ λ e. refl
      | None ↦ λ e. absurd (omega (arith, equals_none hs h e, same_h, same_s, parts_h, parts_s, all, most, here_h, here_s))
    ]) refl in
    record { is_one = one; ranked = is }

-- ---- entries of different keys in any order
module _ {X : Type 0} (key : X → ℕ) where
  absent-hashes : (xs : List X) (h : ℕ) → entry_at key xs h ≡ None → entry_at hash_key (map key xs) h ≡ None
  absent-hashes [] h none = refl
  absent-hashes (x ∷ xs) h none =
      (elim (eqb (key x) h) as (λ b. cond b (Some x) (entry_at key xs h) ≡ None → cond b (Some (key x)) (entry_at hash_key (map key xs) h) ≡ None) [ true ↦ λ n. absurd (cc) | false ↦ λ n. absent-hashes xs h n ]) none

  pub apart-hashes : (xs : List X) → IsApart key xs → IsApart hash_key (map key xs)
  apart-hashes [] each = tt
  apart-hashes (x ∷ xs) each = (absent-hashes xs (key x) each.0, apart-hashes xs each.1)

  below-hashes : (xs : List X) (h : ℕ) → length (below hash_key (map key xs) h) ≡ length (below key xs h)
  below-hashes [] h = refl
  below-hashes (x ∷ xs) h =
      elim (ltb (key x) h) as (λ b. length (cond b (key x ∷ below hash_key (map key xs) h) (below hash_key (map key xs) h)) ≡ length (cond b (x ∷ below key xs h) (below key xs h))) [ true ↦ ap suc (below-hashes xs h) | false ↦ below-hashes xs h ]

  one-hashes : (xs : List X) (h : ℕ) → IsSome (entry_at hash_key (map key xs) h) → IsSome (entry_at key xs h)
  one-hashes [] h one = one
  one-hashes (x ∷ xs) h one =
      (elim (eqb (key x) h) as (λ b. IsSome (cond b (Some (key x)) (entry_at hash_key (map key xs) h)) → IsSome (cond b (Some x) (entry_at key xs h))) [ true ↦ λ o. refl | false ↦ λ o. one-hashes xs h o ]) one

  -- a hash has as many smaller ones in the map of the entries as among them
  below-map_of : (xs : List X) (h : ℕ) → IsApart key xs → length (below key (map_of key xs) h) ≡ length (below key xs h)
  below-map_of [] h each = refl
  below-map_of (x ∷ xs) h each =
      let rest = below-map_of xs h each.1 in
      let mapped : List X = below key (map_of key xs) h in
      let present : List X = below key xs h in
      smaller-with_entry key (map_of key xs) x h (entry_at-map_of key xs (key x) ∙ each.0) ∙ elim (ltb (key x) h) as (λ t. length (cond t (x ∷ mapped) mapped) ≡ length (cond t (x ∷ present) present)) [ true ↦ ap suc rest | false ↦ rest ]

  pub length-apart : (xs : List X) → IsApart key xs → length (map_of key xs) ≡ length xs
  length-apart [] each = refl
  length-apart (x ∷ xs) each = length-with_entry key (map_of key xs) x (entry_at-map_of key xs (key x) ∙ each.0) ∙ ap suc (length-apart xs each.1)

  placed_at : (xs : List X) (h : ℕ) → IsSome (entry_at key xs h) → (j : ℕ) × (d : X) × (j < length xs) × (key (get_or xs j d) ≡ h)
  placed_at [] h one = absurd (cc)
  placed_at (x ∷ xs) h one =
      (elim (eqb (key x) h) as (λ b. eqb (key x) h ≡ b → IsSome (cond b (Some x) (entry_at key xs h)) → (j : ℕ) × (d : X) × (j < length (x ∷ xs)) × (key (get_or (x ∷ xs) j d) ≡ h)) [
        | true ↦ λ e o. (0, x, omega arith, grind (arith, nat_tests))
        | false ↦ λ e o. let rest = placed_at xs h o in (suc rest.0, rest.1, omega (arith, rest.2), rest.3)
      ]) refl one

  -- a map that has a key of rank k is cut to the entries below it
  cut_at : (k t h : ℕ) (m : List X) → IsAscending key m → rank key m h ≡ k → IsSome (entry_at key m h) → AllByRecursion (λ x. key x < t) m → cut key k m t ≡ record { entries = below key m h; theta = h }
  cut_at k t h m up ranked one low =
      let at = placed_at m h one in
      let j : ℕ = at.0 in
      let same : j ≡ k = sym (rank_at key m j at.1 up at.2) ∙ ap (λ (n : ℕ). rank key m n) at.3 ∙ ranked in
      let all = rank_all key m t low in
      let is = cut_more key k m t at.1 up (omega (arith, all, at.2, same)) in
      let front : take k m ≡ below key m h = ap (λ (n : ℕ). take n m) (sym ranked) ∙ sym (below_rank key m h up) in
      let top : key (get_or m k at.1) ≡ h = ap (λ (n : ℕ). key (get_or m n at.1)) (sym same) ∙ at.3 in
      is ∙ ap (λ ys. record { entries = ys; theta = key (get_or m k at.1) }) front ∙ ap (λ (n : ℕ). record { entries = below key m h; theta = n }) top

  -- the entries in slots have distinct hashes
  apart-slots : (slots : List (Option X)) → ((i j : ℕ) (y z : X) → slot slots i ≡ Some y → slot slots j ≡ Some z → key y ≡ key z → i ≡ j) → IsApart key (filled slots)
  apart-slots [] each = tt
  apart-slots (None ∷ slots) each = apart-slots slots (λ i j y z yi zj same. let a : suc i ≡ suc j = each (suc i) (suc j) y z yi zj same in omega (arith, a))
  apart-slots (Some x ∷ slots) each = (
    found_none key slots (key x) (λ q y content same. absurd (let a : suc q ≡ 0 = each (suc q) 0 y x content refl same in omega (arith, a))),
    apart-slots slots (λ i j y z yi zj same. let a : suc i ≡ suc j = each (suc i) (suc j) y z yi zj same in omega (arith, a)),
  )

  pub apart-laid_out : (lg : ℕ) (slots : List (Option X)) → IsLaidOut key lg slots → IsApart key (filled slots)
  apart-laid_out lg slots is = apart-slots slots (λ i j y z yi zj same. only_there key lg (key z) j i y slots is (is.on_path j z zj) (ap (is_other key (key z)) zj ∙ other_not key (key z) z refl) yi same)

  -- with one more entry, if a search for it ends at a free slot
  pub apart-more : (lg p : ℕ) (x : X) (slots : List (Option X)) → IsLaidOut key lg slots → IsOnPath key lg slots (key x) p → slot slots p ≡ None → IsApart key (x ∷ filled slots)
  apart-more lg p x slots is on free =
      (sym (entry_at-map_of key (filled slots) (key x)) ∙ search_finds key lg (key x) p slots is on (ap (is_other key (key x)) free) ∙ free, apart-laid_out lg slots is)

  -- after a rebuild: the entries below the hash with exactly k smaller ones
  pub rebuilt_at : (k t h : ℕ) (x : X) (xs : List X) → 8 ≤ k → 15 * k / 8 < length xs + 1 → IsApart key (x ∷ xs) → AllByRecursion (λ y. key y < t) (map_of key xs) → key x < t → HasRank (key x ∷ map key xs) k h
      → rebuilt key k (with_entry key (map_of key xs) x) t ≡ record { entries = below key (with_entry key (map_of key xs) x) h; theta = h }
  rebuilt_at k t h x xs large more each low x_low is =
      let m = map_of key (x ∷ xs) in
      let count = length-apart (x ∷ xs) each in
      let ranked : rank key m h ≡ k = sym (length-filter (λ y. ltb (key y) h) m) ∙ below-map_of (x ∷ xs) h each ∙ sym (below-hashes (x ∷ xs) h) ∙ length-filter (λ y. ltb y h) (map key (x ∷ xs)) ∙ is.ranked in
      let one : IsSome (entry_at key m h) = rw (entry_at-map_of key (x ∷ xs) h) (one-hashes (x ∷ xs) h is.is_one) in
      rebuilt_full key k m t large (omega (arith, more, count)) ∙ cut_at k t h m (ascending-map_of key (x ∷ xs)) ranked one (each-with_entry key (λ y. key y < t) (map_of key xs) x low x_low)

  -- and these are k
  pub kept_count : (k h : ℕ) (x : X) (xs : List X) → IsApart key (x ∷ xs) → HasRank (key x ∷ map key xs) k h → length (below key (with_entry key (map_of key xs) x) h) ≡ k
  kept_count k h x xs each is = below-map_of (x ∷ xs) h each ∙ sym (below-hashes (x ∷ xs) h) ∙ length-filter (λ y. ltb y h) (map key (x ∷ xs)) ∙ is.ranked

  -- after a trim of more than k
  pub trimmed_at : (k t h : ℕ) (xs : List X) → IsApart key xs → AllByRecursion (λ y. key y < t) (map_of key xs) → HasRank (map key xs) k h → cut key k (map_of key xs) t ≡ record { entries = below key (map_of key xs) h; theta = h }
  trimmed_at k t h xs each low is =
      let m = map_of key xs in
      let ranked : rank key m h ≡ k = sym (length-filter (λ y. ltb (key y) h) m) ∙ below-map_of xs h each ∙ sym (below-hashes xs h) ∙ length-filter (λ y. ltb y h) (map key xs) ∙ is.ranked in
      let one : IsSome (entry_at key m h) = rw (entry_at-map_of key xs h) (one-hashes xs h is.is_one) in
      cut_at k t h m (ascending-map_of key xs) ranked one low

  pub trimmed_count : (k h : ℕ) (xs : List X) → IsApart key xs → HasRank (map key xs) k h → length (below key (map_of key xs) h) ≡ k
  trimmed_count k h xs each is = below-map_of xs h each ∙ sym (below-hashes xs h) ∙ length-filter (λ y. ltb y h) (map key xs) ∙ is.ranked

  -- a cut below any theta has the entries below it and below the hash with exactly k smaller ones
  pub cut_least : (k t h : ℕ) (xs : List X) → IsApart key xs → HasRank (map key xs) k h → cut key k (map_of key xs) t ≡ retained key (map_of key xs) (min h t)
  cut_least k t h xs each is =
      let m = map_of key xs in
      let up = ascending-map_of key xs in
      let ranked : rank key m h ≡ k = sym (length-filter (λ y. ltb (key y) h) m) ∙ below-map_of xs h each ∙ sym (below-hashes xs h) ∙ length-filter (λ y. ltb y h) (map key xs) ∙ is.ranked in
      let one : IsSome (entry_at key m h) = rw (entry_at-map_of key xs h) (one-hashes xs h is.is_one) in
      let at = placed_at m h one in
      let j : ℕ = at.0 in
      let same : j ≡ k = sym (rank_at key m j at.1 up at.2) ∙ ap (λ (n : ℕ). rank key m n) at.3 ∙ ranked in
      let top : key (get_or m k at.1) ≡ h = ap (λ (n : ℕ). key (get_or m n at.1)) (sym same) ∙ at.3 in
      let parts = parts_rank key m t up in
      elim (cases_lt h t) [
        | inl lt ↦
            let more : k < rank key m t =
            elim (cases_lt k (rank key m t)) [
              | inl is_more ↦ is_more
              | inr le ↦ absurd (omega (arith, lt, top, parts.others k at.1 le (omega (arith, at.2, same))))
            ] in
            let least : min h t ≡ h = omega (arith, lt) in
            let front : take k m ≡ below key m h = ap (λ (n : ℕ). take n m) (sym ranked) ∙ sym (below_rank key m h up) in
            let is_cut : cut key k m t ≡ retained key m h = cut_more key k m t at.1 up more ∙ ap (λ ys. record { entries = ys; theta = key (get_or m k at.1) }) front ∙ ap (λ (n : ℕ). record { entries = below key m h; theta = n }) top in
            rw least is_cut
        | inr ge ↦
            let limited : rank key m t ≤ k =
            elim (cases_lt k (rank key m t)) [
              | inl lt ↦ absurd (omega (arith, ge, top, parts.smaller k at.1 lt))
              | inr le ↦ le
            ] in
            let least : min h t ≡ t = omega (arith, ge) in
            rw least (cut_few key k m t up limited)
      ]

  -- and a cut of at most k has all entries below the theta
  pub cut_of_few : (k t : ℕ) (xs : List X) → IsApart key xs → length xs ≤ k → cut key k (map_of key xs) t ≡ retained key (map_of key xs) t
  cut_of_few k t xs each limited =
      let up = ascending-map_of key xs in
      cut_few key k (map_of key xs) t up (omega (arith, limited, length-apart xs each, (parts_rank key (map_of key xs) t up).within))

  -- a hash of theirs is not 0
  pub ranked_low : (k h : ℕ) (xs : List X) → HasRank (map key xs) k h → AllByRecursion (λ x. 0 < key x) (map_of key xs) → 0 < h
  ranked_low k h xs is low =
      let m = map_of key xs in
      let one : IsSome (entry_at key m h) = rw (entry_at-map_of key xs h) (one-hashes xs h is.is_one) in
      let at = placed_at m h one in
      let pos : 0 < key (get_or m at.0 at.1) = each-get_or (λ x. 0 < key x) m at.0 at.1 at.2 low in
      omega (arith, pos, at.3)
