-- A written image is read as its state.
use Rattle.std.proofs.Common.{◌≡◌, ℕ, ◌*◌, ◌^◌, ◌<◌, ◌≤◌, Bool, true, false, cond, not, List, [], ◌∷◌, ◌++◌, length, map, drop, refl, sym, ap, subst, inl, inr, arith, lt-ltb, le-ltb, eq-eqb, eqb, bit_and}
use Rattle.std.specs.Int.{w16, w64, to_le_bytes}
use Rattle.std.specs.List.{AllByRecursion, flat_map}
use Rattle.std.proofs.lemmas.Bool.{cases_lt, cases_eq, ne_eqb}
use Rattle.std.proofs.lemmas.List.{length-map}
use Rattle.std.proofs.lemmas.Nat.{from_le_bytes-to_le_bytes_2}
use Rattle.sketch_base.specs.Bytes.{number}
use Rattle.core_compact.specs.CompactState.{Compact, IsCompact, empty_compact, shown_of}
use Rattle.core_images.specs.Read.{ReadsFlagged, ReadsCurrent, empty_image, single_image, exact_image, estimating_image}
use Rattle.core_images.specs.Preamble.{Begins, announced, count_at, theta_at, is_ordered}
use Rattle.core_images.specs.Write.{written_image, head, counted}
use Rattle.core_images.specs.Entry.{HasEntries, state_after_preamble, SpellsEach}
use Rattle.core_images.specs.HashSpelling.{number-four, number-eight}
use Rattle.core_laws.specs.Shown.{IsShown}
use Rattle.core_laws.specs.declared.TheConstants.{MAX_THETA}
use Rattle.core_images.specs.declared.preamble.Preamble.{Preamble}
use Rattle.core_laws.proofs.maps.MapsOfLists.{each-from_map}

number-two : (x : ℕ) → x < 2 ^ 16 → number (to_le_bytes w16 x) ≡ x
number-two x h = let e = from_le_bytes-to_le_bytes_2 x h in omega arith

flag_ordered : (b : Bool) → not (eqb (bit_and (cond b 0x1a 0x0a) 0x10) 0) ≡ b
flag_ordered true = refl
flag_ordered false = refl

flag_empty : (b : Bool) → not (eqb (bit_and (cond b 0x1a 0x0a) 0x04) 0) ≡ false
flag_empty true = refl
flag_empty false = refl

module _ {X : Type 0} (key : X → ℕ) where
  map_none : (xs : List X) → map key xs ≡ [] → xs ≡ []
  map_none [] e = refl
  map_none (x ∷ xs) e = let more = ap length e in absurd (omega arith)

  -- an empty state is the only one of its seed hash
  pub is_empty_compact : (s : Compact X) → IsCompact key s → s.empty ≡ true → s ≡ empty_compact s.seed_hash
  is_empty_compact s w e =
      let none = map_none s.entries (w.shown.none e) in
      let greatest = w.shown.greatest e in
      let ordered = w.empty_ordered e in
      λ i. record { empty = e i; entries = none i; theta = greatest i; seed_hash = s.seed_hash; ordered = ordered i }

  -- a state that is not empty, as the listing of a preamble
  is_listing : (s : Compact X) (start : ℕ) → s.empty ≡ false → state_after_preamble (record { start = start; count = length s.entries; theta = s.theta; ordered = s.ordered }) s.seed_hash s.entries ≡ s
  is_listing s start e = λ i. record { empty = sym e i; entries = s.entries; theta = s.theta; seed_hash = s.seed_hash; ordered = s.ordered }

module _ {X : Type 0} (key : X → ℕ) (Spells : List ℕ → X → Type 0) (text : X → List ℕ) (IsValue : X → Type 0)
    (again : (x : X) → IsValue x → key x < 2 ^ 64 → Spells (text x) x) (family kind : ℕ) (rest : List ℕ) where
  abbrev Back : List ℕ → Compact X → Type 0
  Back bytes s = ReadsCurrent key Spells family kind bytes s.seed_hash s

  each_written : (theta : ℕ) → theta ≤ MAX_THETA → (xs : List X) → AllByRecursion IsValue xs → AllByRecursion (λ x. key x < theta) xs → SpellsEach Spells (flat_map text xs) xs
  each_written theta high [] v r = refl
  each_written theta high (x ∷ xs) v r =
      let small : key x < 2 ^ 64 = omega (arith, r.0) in
      (text x, flat_map text xs, refl, again x v.0 small, each_written theta high xs v.1 r.1)

  module _ (s : Compact X) (w : IsCompact key s) (v : AllByRecursion IsValue s.entries) (small : s.seed_hash < 2 ^ 16) (e : s.empty ≡ false) where
    spelled : SpellsEach Spells (flat_map text s.entries) s.entries
    spelled = each_written s.theta w.shown.theta_high s.entries v (each-from_map key (λ h. h < s.theta) s.entries w.shown.below_theta)

    limited : length s.entries < 2 ^ 32
    limited = let f = w.shown.limited in let l = length-map s.entries key in omega arith

    lawful : (start : ℕ) → IsShown (shown_of key (state_after_preamble (record { start = start; count = length s.entries; theta = s.theta; ordered = s.ordered }) s.seed_hash s.entries))
    lawful start = let P : Compact X → Type 0 = λ t. IsShown (shown_of key t) in subst P (sym (is_listing key s start e)) w.shown

    -- bytes whose preamble says what the state says, and that have the spellings of its entries behind it
    flagged_by : (bytes : List ℕ) (longs count theta : ℕ) (ordered : Bool) → count ≡ length s.entries → theta ≡ s.theta → ordered ≡ s.ordered → 8 * longs ≤ length bytes → drop (8 * longs) bytes ≡ flat_map text s.entries ++ rest
        → (HasEntries key Spells bytes (announced longs count theta ordered) s.seed_hash s.entries → ReadsFlagged key Spells bytes longs s.seed_hash (state_after_preamble (announced longs count theta ordered) s.seed_hash s.entries))
        → ReadsFlagged key Spells bytes longs s.seed_hash s
    flagged_by bytes longs count theta ordered of_count of_theta of_order whole there reads =
        let same : announced longs count theta ordered ≡ announced longs (length s.entries) s.theta s.ordered = λ i. announced longs (of_count i) (of_theta i) (of_order i) in
        let lists : HasEntries key Spells bytes (announced longs (length s.entries) s.theta s.ordered) s.seed_hash s.entries = record {
          whole = whole;
          content = record { text = flat_map text s.entries; after = rest; there = there; spelled = spelled; counted = refl };
          lawful = lawful (8 * longs);
        } in
        let P : Preamble → Type 0 = λ p. HasEntries key Spells bytes p s.seed_hash s.entries → ReadsFlagged key Spells bytes longs s.seed_hash (state_after_preamble p s.seed_hash s.entries) in
        let Q : Compact X → Type 0 = λ t. ReadsFlagged key Spells bytes longs s.seed_hash t in
        subst Q (is_listing key s (8 * longs) e) (subst P same reads lists)

    three : List ℕ
    three = ((head 3 family kind (cond s.ordered 0x1a 0x0a) s.seed_hash ++ (counted s ++ to_le_bytes w64 s.theta)) ++ flat_map text s.entries) ++ rest

    reads_three : Back three s
    unfolding three
    reads_three =
        let begins : Begins three 3 3 family = record { whole = omega arith; longs_are = refl; longs_low = omega arith; longs_high = omega arith; version_is = refl; family_is = refl } in
        let count : count_at three ≡ length s.entries = number-four (length s.entries) limited in
        let theta : theta_at three ≡ s.theta = let high = w.shown.theta_high in number-eight s.theta (omega arith) in
        (3, begins, refl, flagged_by three 3 (count_at three) (theta_at three) (is_ordered three) count theta (flag_ordered s.ordered) (omega arith) refl (estimating_image s.entries (flag_empty s.ordered) (number-two s.seed_hash small) refl))

    two : List ℕ
    two = ((head 2 family kind (cond s.ordered 0x1a 0x0a) s.seed_hash ++ counted s) ++ flat_map text s.entries) ++ rest

    reads_two : s.theta ≡ MAX_THETA → Back two s
    unfolding two
    reads_two top =
        let begins : Begins two 2 3 family = record { whole = omega arith; longs_are = refl; longs_low = omega arith; longs_high = omega arith; version_is = refl; family_is = refl } in
        let count : count_at two ≡ length s.entries = number-four (length s.entries) limited in
        (2, begins, refl, flagged_by two 2 (count_at two) MAX_THETA (is_ordered two) count (sym top) (flag_ordered s.ordered) (omega arith) refl (exact_image s.entries (flag_empty s.ordered) (number-two s.seed_hash small) refl))

    alone : List ℕ
    alone = ((head 1 family kind (cond s.ordered 0x1a 0x0a) s.seed_hash ++ []) ++ flat_map text s.entries) ++ rest

    reads_alone : s.theta ≡ MAX_THETA → length s.entries ≡ 1 → Back alone s
    unfolding alone
    reads_alone top one_entry =
        let begins : Begins alone 1 3 family = record { whole = omega arith; longs_are = refl; longs_low = omega arith; longs_high = omega arith; version_is = refl; family_is = refl } in
        (1, begins, refl, flagged_by alone 1 1 MAX_THETA (is_ordered alone) (sym one_entry) (sym top) (flag_ordered s.ordered) (omega arith) refl (single_image s.entries (flag_empty s.ordered) (number-two s.seed_hash small) refl))

    as_three : s.theta < MAX_THETA → written_image text family kind s ++ rest ≡ three
    unfolding three
    as_three lt = rw (e, lt-ltb s.theta MAX_THETA lt) refl

    as_two : MAX_THETA ≤ s.theta → (length s.entries ≡ 1 → ⊥) → written_image text family kind s ++ rest ≡ two
    unfolding two
    as_two le more = rw (e, le-ltb s.theta MAX_THETA le, ne_eqb (length s.entries) 1 more) refl

    as_alone : MAX_THETA ≤ s.theta → length s.entries ≡ 1 → written_image text family kind s ++ rest ≡ alone
    unfolding alone
    as_alone le one_entry = rw (e, le-ltb s.theta MAX_THETA le, eq-eqb (length s.entries) 1 one_entry) refl

    reads_filled : Back (written_image text family kind s ++ rest) s
    reads_filled =
        let B : List ℕ → Type 0 = λ bytes. Back bytes s in
        elim (cases_lt s.theta MAX_THETA) [
          | inl lt ↦ subst B (sym (as_three lt)) reads_three
          | inr le ↦
              let high = w.shown.theta_high in
              let top : s.theta ≡ MAX_THETA = omega arith in
              elim (cases_eq (length s.entries) 1) [
                | inl one_entry ↦ subst B (sym (as_alone le one_entry)) (reads_alone top one_entry)
                | inr more ↦ subst B (sym (as_two le more)) (reads_two top)
              ]
        ]

  reads_none : (h : ℕ) → ReadsCurrent key Spells family kind (head 1 family kind 0x1e 0 ++ rest) h (empty_compact h)
  reads_none h =
      (1, record { whole = omega arith; longs_are = refl; longs_low = omega arith; longs_high = omega arith; version_is = refl; family_is = refl }, refl, empty_image refl)

  -- a written image is read again as its state, whatever follows it
  pub written_again : (s : Compact X) → IsCompact key s → AllByRecursion IsValue s.entries → s.seed_hash < 2 ^ 16 → Back (written_image text family kind s ++ rest) s
  written_again s w v small =
      (elim s.empty as (λ b. s.empty ≡ b → Back (written_image text family kind s ++ rest) s) [
        | true ↦ λ e.
            let P : Compact X → Type 0 = λ t. ReadsCurrent key Spells family kind (written_image text family kind t ++ rest) s.seed_hash t in
            subst P (sym (is_empty_compact key s w e)) (reads_none s.seed_hash)
        | false ↦ λ e. reads_filled s w v small e
      ]) refl
