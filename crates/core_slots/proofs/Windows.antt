-- Hashes of a window, and ranks among them.
use Rattle.std.proofs.Common.{◌≡◌, ℕ, suc, ◌+◌, ◌-◌, ◌<◌, ◌≤◌, true, false, not, cond, eqb, ltb, ◌&&◌, IsSome, List, [], ◌∷◌, ◌++◌, length, map, set, take, drop, Option, Some, None, inl, inr, refl, length-append, append_assoc, sym, ap, subst, ◌∙◌, arith}
use Rattle.std.proofs.Math.Seq.{take-suc-set, take-append-add}
use Rattle.std.proofs.lemmas.List.{take-set, take-take, take-append-le, length-take, length-take-le, map-append, append-nil}
use Rattle.std.specs.Option.{option_map}
use Rattle.std.proofs.lemmas.Bool.{cases_lt}
use Rattle.std.proofs.lemmas.Bool.Decides.{nat_tests}
use Rattle.core_laws.specs.Entries.{hash_key}
use Rattle.core_laws.specs.Maps.{IsApart, rank, entry_at}
use Rattle.core_slots.specs.SlotLayout.{filled, greatest_word, hash_or_greatest}
use Rattle.core_slots.specs.Rank.{HasRank, within}
use Rattle.core_slots.proofs.Held.{two_parts}
use Rattle.core_slots.proofs.Moves.{count-append, count-cons}

-- exactly `before` of these hashes are less than low, and the one with k smaller ones is from low to high
pub record IsWindow (hashes : List ℕ) (low high before k : ℕ) : Type 0 where
  pub counted : rank hash_key hashes low ≡ before
  pub from : before ≤ k
  pub to : k < before + length (within low high hashes)

-- ---- one more hash
pub rank-append : (xs ys : List ℕ) (h : ℕ) → rank hash_key (xs ++ ys) h ≡ rank hash_key xs h + rank hash_key ys h
rank-append xs ys h = count-append (λ x. ltb x h) xs ys

-- at most all hashes are less than h
pub rank_few : (xs : List ℕ) (h : ℕ) → rank hash_key xs h ≤ length xs
rank_few [] h = omega arith
rank_few (x ∷ xs) h = let rest = rank_few xs h in let more = count-cons (λ y. ltb y h) x xs in elim (cases_lt x h) [
  | inl lt ↦ let is : ltb x h ≡ true = grind (arith, nat_tests) in let one : rank hash_key (x ∷ []) h ≡ 1 = rw is refl in omega (arith, rest, more, one)
  | inr ge ↦ let is : ltb x h ≡ false = grind (arith, nat_tests) in let none : rank hash_key (x ∷ []) h ≡ 0 = rw is refl in omega (arith, rest, more, none)
]

-- the hashes in the first n slots, and those in the others
pub hashes_parts : {S X : Type 0} (key : X → ℕ) (content : S → Option X) (slots : List S) (n : ℕ) → map key (filled (map content slots)) ≡ map key (filled (map content (take n slots))) ++ map key (filled (map content (drop n slots)))
hashes_parts key content slots n = ap (map key) (two_parts content slots n) ∙ map-append key (filled (map content (take n slots))) (filled (map content (drop n slots)))

module _ (low high : ℕ) where
  pub within-append : (xs ys : List ℕ) → within low high (xs ++ ys) ≡ within low high xs ++ within low high ys
  within-append [] ys = refl
  within-append (x ∷ xs) ys =
      let rest = within-append xs ys in
      elim (not (ltb x low) && not (ltb high x)) as (λ b. cond b (x ∷ within low high (xs ++ ys)) (within low high (xs ++ ys)) ≡ cond b (x ∷ within low high xs) (within low high xs) ++ within low high ys) [ true ↦ ap (λ zs. x ∷ zs) rest | false ↦ rest ]

  -- ---- hashes that are apart
  absent_within : (xs : List ℕ) (h : ℕ) → entry_at hash_key xs h ≡ None → entry_at hash_key (within low high xs) h ≡ None
  absent_within [] h none = refl
  absent_within (x ∷ xs) h none =
      (elim (eqb x h) as (λ e. eqb x h ≡ e → cond e (Some x) (entry_at hash_key xs h) ≡ None → entry_at hash_key (within low high (x ∷ xs)) h ≡ None) [
        | true ↦ λ is n. absurd (cc)
        | false ↦ λ is n.
            let rest = absent_within xs h n in
            elim (not (ltb x low) && not (ltb high x)) as (λ b. entry_at hash_key (cond b (x ∷ within low high xs) (within low high xs)) h ≡ None) [ true ↦ rw is rest | false ↦ rest ]
      ]) refl none

  pub apart_within : (xs : List ℕ) → IsApart hash_key xs → IsApart hash_key (within low high xs)
  apart_within [] each = tt
  apart_within (x ∷ xs) each =
      let rest = apart_within xs each.1 in
      elim (not (ltb x low) && not (ltb high x)) as (λ b. IsApart hash_key (cond b (x ∷ within low high xs) (within low high xs))) [ true ↦ (absent_within xs x each.0, rest) | false ↦ rest ]

  -- ---- ranks
  record IsKept (xs : List ℕ) (h : ℕ) : Type 0 where
    pub from : low ≤ h
    pub to : h ≤ high
    pub one : IsSome (entry_at hash_key xs h)

  kept_more : (x : ℕ) (xs : List ℕ) (h : ℕ) → IsKept xs h → IsKept (x ∷ xs) h
  kept_more x xs h is = record { from = is.from; to = is.to; one = let one = is.one in elim (eqb x h) as (λ b. IsSome (cond b (Some x) (entry_at hash_key xs h))) [ true ↦ refl | false ↦ one ] }

  kept : (xs : List ℕ) (h : ℕ) → IsSome (entry_at hash_key (within low high xs) h) → IsKept xs h
  kept [] h one = absurd (cc)
  kept (x ∷ xs) h one =
      (elim (not (ltb x low) && not (ltb high x)) as (λ b. (not (ltb x low) && not (ltb high x)) ≡ b → IsSome (entry_at hash_key (cond b (x ∷ within low high xs) (within low high xs)) h) → IsKept (x ∷ xs) h) [
        | true ↦ λ in_it o.
            (elim (eqb x h) as (λ e. eqb x h ≡ e → IsSome (cond e (Some x) (entry_at hash_key (within low high xs) h)) → IsKept (x ∷ xs) h) [
              | true ↦ λ is some.
                  let same : x ≡ h = grind (arith, nat_tests) in
                  record { from = let a : low ≤ x = grind (arith, nat_tests, in_it) in omega (arith, a, same); to = let a : x ≤ high = grind (arith, nat_tests, in_it) in omega (arith, a, same); one = rw is refl }
              | false ↦ λ is some. kept_more x xs h (kept xs h some)
            ]) refl o
        | false ↦ λ out o. kept_more x xs h (kept xs h o)
      ]) refl one

  counts_one : (x h : ℕ) → x < h → rank hash_key (x ∷ []) h ≡ 1
  counts_one x h lt = let is : ltb x h ≡ true = grind (arith, nat_tests) in rw is refl

  counts_none : (x h : ℕ) → h ≤ x → rank hash_key (x ∷ []) h ≡ 0
  counts_none x h le = let is : ltb x h ≡ false = grind (arith, nat_tests) in rw is refl

  first_kept : (x : ℕ) (xs : List ℕ) → low ≤ x → x ≤ high → within low high (x ∷ xs) ≡ x ∷ within low high xs
  first_kept x xs from to = let a : ltb x low ≡ false = grind (arith, nat_tests) in let b : ltb high x ≡ false = grind (arith, nat_tests) in rw (a, b) refl

  first_low : (x : ℕ) (xs : List ℕ) → x < low → within low high (x ∷ xs) ≡ within low high xs
  first_low x xs lt = let a : ltb x low ≡ true = grind (arith, nat_tests) in rw a refl

  first_high : (x : ℕ) (xs : List ℕ) → low ≤ x → high < x → within low high (x ∷ xs) ≡ within low high xs
  first_high x xs from lt = let a : ltb x low ≡ false = grind (arith, nat_tests) in let b : ltb high x ≡ true = grind (arith, nat_tests) in rw (a, b) refl

  -- the hashes less than one of the window are below the window or in it
  rank_parts : (xs : List ℕ) (h : ℕ) → low ≤ h → h ≤ high → rank hash_key xs h ≡ rank hash_key xs low + rank hash_key (within low high xs) h
  rank_parts [] h from to = refl
  rank_parts (x ∷ xs) h from to =
      let rest = rank_parts xs h from to in
      let a = count-cons (λ y. ltb y h) x xs in
      let b = count-cons (λ y. ltb y low) x xs in
      elim (cases_lt x low) [
        | inl lt ↦
            let same = ap (λ ys. rank hash_key ys h) (first_low x xs lt) in
            omega (arith, rest, a, b, same, counts_one x h (omega (arith, lt, from)), counts_one x low lt)
        | inr ge ↦
            elim (cases_lt high x) [
              | inl gt ↦
                  let same = ap (λ ys. rank hash_key ys h) (first_high x xs ge gt) in
                  omega (arith, rest, a, b, same, counts_none x h (omega (arith, gt, to)), counts_none x low ge)
              | inr le ↦
                  let same = ap (λ ys. rank hash_key ys h) (first_kept x xs ge le) in
                  let c = count-cons (λ y. ltb y h) x (within low high xs) in
                  omega (arith, rest, a, b, c, same, counts_none x low ge)
            ]
      ]

  -- the hash of a rank is that of a lower rank in a window
  pub rank_in_window : (xs : List ℕ) (before k h : ℕ) → IsWindow xs low high before k → HasRank (within low high xs) (k - before) h → HasRank xs k h
  rank_in_window xs before k h is ranked =
      let there = kept xs h ranked.is_one in
      record {
        is_one = there.one;
        ranked = omega (arith, rank_parts xs h there.from there.to, is.counted, is.from, ranked.ranked);
      }

-- a free slot counts as the greatest number, which is in no window
module _ {X : Type 0} (key : X → ℕ) (low high : ℕ) where
  pub within_slot : (o : Option X) (h : ℕ) → h ≡ hash_or_greatest key o → high < greatest_word → within low high (h ∷ []) ≡ within low high (map key (filled (o ∷ [])))
  within_slot None h is far =
      let beyond : ltb high h ≡ true = grind (arith, nat_tests) in
      elim (ltb h low) as (λ b. cond (not b && not (ltb high h)) (h ∷ []) [] ≡ []) [ true ↦ refl | false ↦ rw beyond refl ]
  within_slot (Some x) h is far = rw is refl

  pub rank_slot : (o : Option X) (h : ℕ) → h ≡ hash_or_greatest key o → low ≤ high → high < greatest_word → rank hash_key (h ∷ []) low ≡ rank hash_key (map key (filled (o ∷ []))) low
  rank_slot None h is ordered far = let up : ltb h low ≡ false = grind (arith, nat_tests) in rw up refl
  rank_slot (Some x) h is ordered far = rw is refl

-- one more hash, in front of a list if it is from low to high
pub kept_next : (low high : ℕ) (found : List ℕ) (count h : ℕ) → count < length found → take (count + length (within low high (h ∷ []))) (set found count h) ≡ take count found ++ within low high (h ∷ [])
kept_next low high found count h lt =
    let none : take (count + 0) (set found count h) ≡ take count found ++ [] =
    let present : count ≡ count + 0 = omega arith in
    subst (λ (n : ℕ). take n (set found count h) ≡ take count found ++ []) present (take-set found count h ∙ sym (append-nil (take count found))) in
    let one : take (count + 1) (set found count h) ≡ take count found ++ h ∷ [] =
    let next : suc count ≡ count + 1 = omega arith in
    subst (λ (n : ℕ). take n (set found count h) ≡ take count found ++ h ∷ []) next (take-suc-set found count h lt) in
    elim (not (ltb h low) && not (ltb high h)) as (λ b. take (count + length (cond b (h ∷ []) [])) (set found count h) ≡ take count found ++ cond b (h ∷ []) []) [ true ↦ one | false ↦ none ]

-- the elements written into a part of a list, behind those in front of it
module _ {S : Type 0} (xs found post end : List S) (count kept n : ℕ) (inside : count ≤ length xs) (limited : kept ≤ length found) (room : count + kept ≤ n) where
  abbrev pub written : List S
  written = take n ((take count xs ++ (found ++ post)) ++ end)

  pub part_kept : take (count + kept) written ≡ take count xs ++ take kept found
  part_kept =
      let long : length (take count xs) ≡ count = length-take-le count xs inside in
      take-take (count + kept) n ((take count xs ++ (found ++ post)) ++ end) room
      ∙ ap (take (count + kept)) (append_assoc (take count xs) (found ++ post) end ∙ ap (λ zs. take count xs ++ zs) (append_assoc found post end))
      ∙ subst (λ (m : ℕ). take (m + kept) (take count xs ++ (found ++ (post ++ end))) ≡ take count xs ++ take kept (found ++ (post ++ end))) long (take-append-add (take count xs) (found ++ (post ++ end)) kept)
      ∙ ap (λ zs. take count xs ++ zs) (take-append-le kept found (post ++ end) limited)

  pub part_long : count + kept ≤ length written
  part_long =
      let a = ap length part_kept ∙ length-append (take count xs) (take kept found) in
      omega (arith, a, length-take-le count xs inside, length-take-le kept found limited, length-take (count + kept) written)

-- the hash of the entry in a slot
pub key_held : {X : Type 0} (key : X → ℕ) (o : Option X) → filled (option_map key o ∷ []) ≡ map key (filled (o ∷ []))
key_held key None = refl
key_held key (Some x) = refl
