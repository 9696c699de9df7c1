-- Hashes that are looked up together: blanking, packing and dropping them.
use Rattle.std.proofs.Common.{◌≡◌, ◌≢◌, ℕ, zero, suc, ◌+◌, ◌<◌, ◌≤◌, Bool, true, false, cond, eqb, not, List, [], ◌∷◌, ◌++◌, length, map, filter, take, drop, set, get_or, Option, Some, None, inl, inr, refl, sym, ap, subst, ◌∙◌, arith, get_or-set_other}
use Rattle.std.specs.Prelude.{IsSome, option_map, unwrap_or}
use Rattle.std.specs.List.{AllByRecursion}
use Rattle.std.proofs.lemmas.Bool.Decides.{nat_tests}
use Rattle.std.proofs.lemmas.List.{take_more, length-append, length-take-le, take-append-le, take-append-drop, take_at}
use Rattle.std.proofs.lemmas.List.Elements.{filter-append}
use Rattle.core_laws.specs.Maps.{entry_at}
use Rattle.core_laws.specs.Insertion.{is_screened, IsRedundant, Drops}
use Rattle.core_laws.proofs.insertions.DroppedHashes.{left_out_again, left_out-filter}
use Rattle.core_slots.specs.SlotLayout.{filled}
use Rattle.core_slots.specs.Lookup.{IsBlanked}

-- of the first i hashes those that pass were moved to the front, `count` in all; the others are unchanged
pub record IsPacking (screens : ℕ → Bool) (old new : List ℕ) (i count : ℕ) : Type 0 where
  pub size : length new ≡ length old
  pub limited : count ≤ i
  pub packed : take count new ≡ filter (λ h. not (screens h)) (take i old)
  pub others : (q : ℕ) → i ≤ q → get_or new q 0 ≡ get_or old q 0

-- one more hash is moved
module _ (screens : ℕ → Bool) (old new : List ℕ) (i count h : ℕ) (lt : i < length new) (is : h ≡ get_or new i 0) (was : IsPacking screens old new i count) where
  one_more : filter (λ x. not (screens x)) (take (i + 1) old) ≡ filter (λ x. not (screens x)) (take i old) ++ filter (λ x. not (screens x)) (h ∷ [])
  one_more =
      let within : i < length old = omega (arith, was.size, lt) in
      let p : ℕ → Bool = λ x. not (screens x) in
      ap (filter p) (take_more old i 0 within) ∙ filter-append p (take i old) (get_or old i 0 ∷ [])
      ∙ ap (λ (x : ℕ). filter p (take i old) ++ filter p (x ∷ [])) (sym (was.others i (omega arith)) ∙ sym is)

  others_more : (q : ℕ) → i + 1 ≤ q → get_or (set new count h) q 0 ≡ get_or old q 0
  others_more q le =
      let past : q ≢ count = λ same. absurd (omega (arith, same, le, was.limited)) in
      get_or-set_other new count q h 0 past ∙ was.others q (omega arith)

-- the entry in a slot is one of the entries
module _ {S X : Type 0} (key : X → ℕ) (content : S → Option X) where
  held_in : (slots : List S) (at : ℕ) (s : S) (x : X) → at < length slots → s ≡ get_or slots at s → content s ≡ Some x → IsSome (entry_at key (filled (map content slots)) (key x))
  held_in [] at s x lt is holds = absurd (omega (arith, lt))
  held_in (t ∷ slots) zero s x lt is holds =
      let same : content t ≡ Some x = ap content (sym is) ∙ holds in
      let e : eqb (key x) (key x) ≡ true = grind (arith, nat_tests) in
      rw (same, e) refl
  held_in (t ∷ slots) (suc at) s x lt is holds =
      let rest = held_in slots at s x (omega (arith, lt)) is holds in
      elim (content t) as (λ o. IsSome (entry_at key (filled (o ∷ map content slots)) (key x))) [
        | None ↦ rest
        | Some y ↦ elim (eqb (key y) (key x)) as (λ b. IsSome (cond b (Some y) (entry_at key (filled (map content slots)) (key x)))) [ true ↦ refl | false ↦ rest ]
      ]

  blanked_by : (slots : List S) (at hash : ℕ) (s : S) → at < length slots → s ≡ get_or slots at s → (o : Option X) → content s ≡ o → hash ≡ unwrap_or (option_map key o) 0 → IsBlanked key (filled (map content slots)) hash 0
  blanked_by slots at hash s lt is None holds same = inl (sym same)
  blanked_by slots at hash s lt is (Some x) holds same = inr (refl, subst (λ (q : ℕ). IsSome (entry_at key (filled (map content slots)) q)) (sym same) (held_in slots at s x lt is holds))

  pub blanked : (slots : List S) (at hash found g : ℕ) (s : S) → at < length slots → s ≡ get_or slots at s → found ≡ unwrap_or (option_map key (content s)) 0 → g ≡ cond (eqb hash found) 0 hash → IsBlanked key (filled (map content slots)) hash g
  blanked slots at hash found g s lt is holds made =
      (elim (eqb hash found) as (λ b. eqb hash found ≡ b → g ≡ cond b 0 hash → IsBlanked key (filled (map content slots)) hash g) [
        | true ↦ λ e m.
            let same : hash ≡ found = grind (arith, nat_tests) in
            subst (λ (q : ℕ). IsBlanked key (filled (map content slots)) hash q) (sym m) (blanked_by slots at hash s lt is (content s) refl (same ∙ holds))
        | false ↦ λ e m. inl m
      ]) refl made

-- packed hashes aren't screened
pub packed_pass : (theta : ℕ) (hashes : List ℕ) → AllByRecursion (λ h. is_screened h theta ≡ false) (filter (λ h. not (is_screened h theta)) hashes)
packed_pass theta [] = tt
packed_pass theta (h ∷ hashes) =
    let rest = packed_pass theta hashes in
    let left : List ℕ = filter (λ h. not (is_screened h theta)) hashes in
    (elim (is_screened h theta) as (λ b. is_screened h theta ≡ b → AllByRecursion (λ h. is_screened h theta ≡ false) (cond (not b) (h ∷ left) left)) [ true ↦ λ e. rest | false ↦ λ e. (e, rest) ]) refl

-- hashes that were blanked and packed are dropped
module _ {X : Type 0} (key : X → ℕ) (xs : List X) (theta : ℕ) where
  left_out-blanked : (hashes now : List ℕ) → length now ≡ length hashes → ((p : ℕ) → p < length hashes → IsBlanked key xs (get_or hashes p 0) (get_or now p 0)) →
      Drops (IsRedundant key (record { entries = xs; theta = theta })) hashes (filter (λ h. not (is_screened h theta)) now)
  left_out-blanked [] [] size each = refl
  left_out-blanked [] (g ∷ now) size each = absurd (cc)
  left_out-blanked (h ∷ hashes) [] size each = absurd (cc)
  left_out-blanked (h ∷ hashes) (g ∷ now) size each =
      let rest = left_out-blanked hashes now (omega (arith, size)) (λ p lt. each (suc p) (omega (arith, lt))) in
      let left : List ℕ = filter (λ h. not (is_screened h theta)) now in
      (elim (is_screened g theta) as (λ b. is_screened g theta ≡ b → Drops (IsRedundant key (record { entries = xs; theta = theta })) (h ∷ hashes) (cond (not b) (g ∷ left) left)) [
        | true ↦ λ e. elim (each 0 (omega arith)) [
          | inl same ↦ inl (inl (subst (λ (q : ℕ). is_screened q theta ≡ true) same e), rest)
          | inr found ↦ inl (inr found.1, rest)
        ]
        | false ↦ λ e. elim (each 0 (omega arith)) [
          | inl same ↦ inr (left, ap (λ z. z ∷ left) same, rest)
          | inr found ↦ absurd (grind (arith, nat_tests, found.0))
        ]
      ]) refl

  -- the remaining hashes so far
  pub record IsLeft (whole hashes : List ℕ) (left : ℕ) : Type 0 where
    pub size : length hashes ≡ length whole
    pub limited : left ≤ length hashes
    pub unscreened : AllByRecursion (λ h. is_screened h theta ≡ false) (take left hashes)
    pub others_out : Drops (IsRedundant key (record { entries = xs; theta = theta })) whole (take left hashes)

  -- one more round: the front is blanked, and the hashes that are not blanked are packed
  pub left_more : (whole hashes blanks packs : List ℕ) (left more : ℕ) → IsLeft whole hashes left →
      length blanks ≡ length (take left hashes) → ((p : ℕ) → p < length (take left hashes) → IsBlanked key xs (get_or (take left hashes) p 0) (get_or blanks p 0)) →
      length packs ≡ length (take left (blanks ++ drop left hashes)) → more ≤ length (take left (blanks ++ drop left hashes)) → take more packs ≡ filter (λ h. not (is_screened h theta)) (take left (blanks ++ drop left hashes)) →
      IsLeft whole (packs ++ drop left (blanks ++ drop left hashes)) more
  left_more whole hashes blanks packs left more was size each packs_size limited packed =
      let front : length (take left hashes) ≡ left = length-take-le left hashes was.limited in
      let same : take left (blanks ++ drop left hashes) ≡ blanks = take_at blanks (drop left hashes) left (size ∙ front) in
      let short : length (take left (blanks ++ drop left hashes)) ≡ left = ap length same ∙ size ∙ front in
      let long : length (blanks ++ drop left hashes) ≡ length hashes =
      length-append blanks (drop left hashes) ∙ ap (λ (n : ℕ). n + length (drop left hashes)) size ∙ sym (length-append (take left hashes) (drop left hashes)) ∙ ap length (take-append-drop left hashes) in
      let whole_size : length (packs ++ drop left (blanks ++ drop left hashes)) ≡ length hashes =
      length-append packs (drop left (blanks ++ drop left hashes)) ∙ ap (λ (n : ℕ). n + length (drop left (blanks ++ drop left hashes))) packs_size
      ∙ sym (length-append (take left (blanks ++ drop left hashes)) (drop left (blanks ++ drop left hashes))) ∙ ap length (take-append-drop left (blanks ++ drop left hashes)) ∙ long in
      let now : take more (packs ++ drop left (blanks ++ drop left hashes)) ≡ filter (λ h. not (is_screened h theta)) blanks =
      take-append-le more packs (drop left (blanks ++ drop left hashes)) (omega (arith, limited, packs_size)) ∙ packed ∙ ap (filter (λ h. not (is_screened h theta))) same in
      record {
        size = whole_size ∙ was.size;
        limited = omega (arith, limited, short, was.limited, whole_size);
        unscreened = subst (AllByRecursion (λ h. is_screened h theta ≡ false)) (sym now) (packed_pass theta blanks);
        others_out = left_out_again _ whole (take left hashes) (take more (packs ++ drop left (blanks ++ drop left hashes))) was.others_out
            (subst (λ zs. Drops (IsRedundant key (record { entries = xs; theta = theta })) (take left hashes) zs) (sym now) (left_out-blanked (take left hashes) blanks size each));
      }

  -- the first
  pub left_out-first : (hashes after : List ℕ) → after ≡ filter (λ h. not (is_screened h theta)) hashes → Drops (IsRedundant key (record { entries = xs; theta = theta })) hashes after
  left_out-first hashes after is =
      subst (λ zs. Drops (IsRedundant key (record { entries = xs; theta = theta })) hashes zs) (sym is)
      (left_out-filter _ (λ h. not (is_screened h theta)) (λ h e. inl (grind (arith, nat_tests))) hashes)
