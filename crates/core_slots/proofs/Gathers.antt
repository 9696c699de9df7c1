-- Entries below a theta that are gathered in front of other slots.
use Rattle.std.proofs.Common.{◌≡◌, ◌⊎◌, ℕ, zero, suc, ◌+◌, ◌<◌, ◌≤◌, Bool, true, false, cond, ltb, List, [], ◌∷◌, ◌++◌, length, length-append, map, get_or, set, take, drop, Option, Some, None, inl, inr, refl, sym, ap, subst, ◌∙◌, arith}
use Rattle.std.proofs.lemmas.List.{take-set, take_at, get_or-drop, map-append, append-nil}
use Rattle.std.proofs.Math.Seq.{take-suc-set}
use Rattle.std.proofs.lemmas.List.Elements.{filter-append}
use Rattle.core_laws.specs.Maps.{IsApart, below, map_of, entry_at}
use Rattle.core_laws.proofs.maps.Ascending.{ascending-filter}
use Rattle.core_laws.proofs.maps.LookUps.{entry_at-below, same_map}
use Rattle.core_laws.proofs.maps.MapsOfLists.{entry_at-map_of, ascending-map_of}
use Rattle.core_slots.specs.SlotLayout.{filled}
use Rattle.core_slots.proofs.Held.{filled-next, two_parts}
use Rattle.core_slots.proofs.SlotLayouts.{filled-append}

module _ {S : Type 0} where
  -- from the next element on nothing is written
  pub drop-set : (xs : List S) (i : ℕ) (s : S) → drop (i + 1) (set xs i s) ≡ drop (i + 1) xs
  drop-set xs i s = let next : suc i ≡ i + 1 = omega arith in subst (λ (n : ℕ). drop n (set xs i s) ≡ drop n xs) next (drop_suc xs i s)
    where
      drop_suc : (xs : List S) (i : ℕ) (s : S) → drop (suc i) (set xs i s) ≡ drop (suc i) xs
      drop_suc [] i s = refl
      drop_suc (x ∷ xs) zero s = refl
      drop_suc (x ∷ xs) (suc i) s = drop_suc xs i s

  -- the first element of the rest
  pub get_or-left : (xs ys : List S) (i : ℕ) (d : S) → drop i xs ≡ drop i ys → get_or xs i d ≡ get_or ys i d
  get_or-left xs ys i d same =
      let present : i + 0 ≡ i = omega arith in
      subst (λ (n : ℕ). get_or xs n d ≡ get_or ys n d) present (sym (get_or-drop i xs 0 d) ∙ ap (λ zs. get_or zs 0 d) same ∙ get_or-drop i ys 0 d)

module _ {X : Type 0} (key : X → ℕ) where
  -- the entry in a slot is below theta, or is not
  one_or_none : (o : Option X) (theta : ℕ) → (below key (filled (o ∷ [])) theta ≡ []) ⊎ ((below key (filled (o ∷ [])) theta ≡ filled (o ∷ [])) × (length (below key (filled (o ∷ [])) theta) ≡ 1))
  one_or_none None theta = inl refl
  one_or_none (Some x) theta = elim (ltb (key x) theta) as (λ b. (cond b (x ∷ []) [] ≡ []) ⊎ ((cond b (x ∷ []) [] ≡ x ∷ []) × (length (cond b (x ∷ []) []) ≡ 1))) [ true ↦ inr (refl, refl) | false ↦ inl refl ]

  -- the entries below theta are no more than all entries
  pub below_few : (xs : List X) (theta : ℕ) → length (below key xs theta) ≤ length xs
  below_few [] theta = omega arith
  below_few (x ∷ xs) theta = let rest = below_few xs theta in elim (ltb (key x) theta) as (λ b. length (cond b (x ∷ below key xs theta) (below key xs theta)) ≤ suc (length xs)) [ true ↦ omega (arith, rest) | false ↦ omega (arith, rest) ]

  module _ {S : Type 0} (content : S → Option X) where
    -- the entries below theta with one more slot
    low_next : (first : List S) (at theta : ℕ) (d : S) → at < length first
        → below key (filled (map content (take (at + 1) first))) theta ≡ below key (filled (map content (take at first))) theta ++ below key (filled (content (get_or first at d) ∷ [])) theta
    low_next first at theta d lt =
        ap (λ xs. below key xs theta) (filled-next content first at d lt) ∙ filter-append (λ x. ltb (key x) theta) (filled (map content (take at first))) (filled (content (get_or first at d) ∷ []))

    pub number_next : (first : List S) (at theta more : ℕ) (s d : S) → at < length first → s ≡ get_or first at d → more ≡ length (below key (filled (content s ∷ [])) theta)
        → length (below key (filled (map content (take (at + 1) first))) theta) ≡ length (below key (filled (map content (take at first))) theta) + more
    number_next first at theta more s d lt is number =
        ap length (low_next first at theta d lt) ∙ length-append (below key (filled (map content (take at first))) theta) (below key (filled (content (get_or first at d) ∷ [])) theta)
        ∙ ap (λ (n : ℕ). length (below key (filled (map content (take at first))) theta) + n) (ap (λ (t : S). length (below key (filled (content t ∷ [])) theta)) (sym is) ∙ sym number)

    -- the first slots have no more entries below theta than all slots
    pub part_few : (first : List S) (at theta : ℕ) → length (below key (filled (map content (take at first))) theta) ≤ length (below key (filled (map content first)) theta)
    part_few first at theta =
        let seen : List X = filled (map content (take at first)) in
        let rest : List X = filled (map content (drop at first)) in
        let parts = ap (λ xs. length (below key xs theta)) (two_parts content first at) ∙ ap length (filter-append (λ x. ltb (key x) theta) seen rest) ∙ length-append (below key seen theta) (below key rest theta) in
        omega (arith, parts)

    -- one more slot
    pub gathered-next : (first others : List S) (at count theta more : ℕ) (s d : S) → at < length first → count < length others → s ≡ get_or first at d → more ≡ length (below key (filled (content s ∷ [])) theta)
        → filled (map content (take count others)) ≡ below key (filled (map content (take at first))) theta
        → filled (map content (take (count + more) (set others count s))) ≡ below key (filled (map content (take (at + 1) first))) theta
    gathered-next first others at count theta more s d lt inside is number so_far =
        let seen : List X = filled (map content (take at first)) in
        let one : List X = filled (content s ∷ []) in
        let right : below key (filled (map content (take (at + 1) first))) theta ≡ below key seen theta ++ below key one theta =
        low_next first at theta d lt ∙ ap (λ (t : S). below key seen theta ++ below key (filled (content t ∷ [])) theta) (sym is) in
        elim (one_or_none (content s) theta) [
          | inl none ↦
              let still : count + more ≡ count = omega (arith, number, ap length none) in
              ap (λ (n : ℕ). filled (map content (take n (set others count s)))) still ∙ ap (λ xs. filled (map content xs)) (take-set others count s) ∙ so_far
              ∙ sym (right ∙ ap (λ xs. below key seen theta ++ xs) none ∙ append-nil (below key seen theta))
          | inr all ↦
              let next : count + more ≡ suc count = omega (arith, number, all.1) in
              ap (λ (n : ℕ). filled (map content (take n (set others count s)))) next ∙ ap (λ xs. filled (map content xs)) (take-suc-set others count s inside)
              ∙ ap filled (map-append content (take count others) (s ∷ [])) ∙ filled-append (map content (take count others)) (content s ∷ [])
              ∙ ap (λ xs. xs ++ one) so_far ∙ sym (right ∙ ap (λ xs. below key seen theta ++ xs) all.0)
        ]

    -- the gathered entries are in front of others, and are kept
    pub front_gathered : (first arriving others kept : List S) (n count theta : ℕ) → n ≡ length arriving → kept ≡ take count (take n (arriving ++ drop (length arriving) others))
        → filled (map content (take count arriving)) ≡ below key (filled (map content first)) theta → filled (map content kept) ≡ below key (filled (map content first)) theta
    front_gathered first arriving others kept n count theta long is taken =
        ap (λ xs. filled (map content xs)) (is ∙ ap (λ xs. take count xs) (take_at arriving (drop (length arriving) others) n (sym long))) ∙ taken

  -- the map of the entries below theta
  pub map_of-below : (xs : List X) (theta : ℕ) → map_of key (below key xs theta) ≡ below key (map_of key xs) theta
  map_of-below xs theta =
      same_map key _ _ (ascending-map_of key (below key xs theta)) (ascending-filter key _ _ (ascending-map_of key xs))
      (λ q. entry_at-map_of key (below key xs theta) q
      ∙ entry_at-below key xs theta q
      ∙ ap (λ o. cond (ltb q theta) o None) (sym (entry_at-map_of key xs q))
      ∙ sym (entry_at-below key (map_of key xs) theta q))

  -- hashes that differ differ below theta
  pub apart-below : (xs : List X) (theta : ℕ) → IsApart key xs → IsApart key (below key xs theta)
  apart-below [] theta each = each
  apart-below (x ∷ xs) theta each =
      let rest = apart-below xs theta each.1 in
      let none : entry_at key (below key xs theta) (key x) ≡ None = entry_at-below key xs theta (key x) ∙ either_none (ltb (key x) theta) (entry_at key xs (key x)) each.0 in
      elim (ltb (key x) theta) as (λ b. IsApart key (cond b (x ∷ below key xs theta) (below key xs theta))) [ true ↦ (none, rest) | false ↦ rest ]
    where
      either_none : (b : Bool) (o : Option X) → o ≡ None → cond b o None ≡ None
      either_none true o is = is
      either_none false o is = refl
