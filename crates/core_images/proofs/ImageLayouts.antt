-- Heads and layouts of images: each reading of the relation has a head and a layout, and each of these is a reading.
use Rattle.std.proofs.Common.{◌≡◌, ℕ, ◌+◌, ◌*◌, ◌<◌, ◌≤◌, ◌⊎◌, Bool, true, false, cond, not, List, ◌++◌, length, drop, Option, Some, None, Result, Ok, Err, refl, sym, ap, subst, ◌∙◌, inl, inr, arith, eqb-true, eq-eqb, lt-ltb, le-ltb, ltb, leb, eqb, ◌&&◌, ◌||◌, length-append, length-drop}
use Rattle.std.specs.Bool.{⊤}
use Rattle.std.proofs.lemmas.Bool.Decides.{nat_tests}
use Rattle.std.proofs.lemmas.Bool.{cases_eq}
use Rattle.core_compact.specs.CompactState.{Compact}
use Rattle.core_images.specs.Read.{ReadsFlagged, empty_image, single_image, exact_image, estimating_image, LeavesOpen}
use Rattle.core_images.specs.Preamble.{seed_hash_at, is_empty, is_ordered, is_vacant}
use Rattle.core_images.specs.Head.{longs_at, version_at, family_at, type_at, has_longs, preamble_of, vacant, filled, flagged_head, unflagged_head, theta_head, tuple_head, is_tuple_version, is_sketch_type, is_of_seed, has_theta, layout_of, IsWholeLayout}
use Rattle.core_images.specs.Entry.{state_after_preamble, HasEntries}
use Rattle.core_laws.specs.declared.TheConstants.{MAX_THETA}
use Rattle.core_images.specs.declared.flaw.Flaw.{Flaw}
use Rattle.core_images.specs.declared.flaw.Flaw.TheVariants.{Short, Family, Version, Malformed, Cut, Seed, Theta}
use Rattle.core_images.specs.declared.head.Head.{Head}
use Rattle.core_images.specs.declared.preamble.ImageLayout.{ImageLayout}
use Rattle.core_images.specs.declared.preamble.ImageLayout.TheVariants.{Empty, Filled}
use Rattle.core_images.specs.declared.preamble.Preamble.{Preamble}
use Rattle.core_images.proofs.ReadEntries.{each_long}
use Rattle.core_images.proofs.SpelledEntries.{lists_one}

-- what holds of a choice by a test holds of the one that is chosen, and the other way
pub chosen : {X : Type 0} (P : X → Type 0) (t : Bool) (a b : X) → P (cond t a b) → ((t ≡ true) × P a) ⊎ ((t ≡ false) × P b)
chosen P true a b p = inl (refl, p)
chosen P false a b p = inr (refl, p)

pub either : {X : Type 0} (P : X → Type 0) (t : Bool) (a b : X) → (t ≡ true → P a) → (t ≡ false → P b) → P (cond t a b)
either P true a b f g = f refl
either P false a b f g = g refl

pub both_true : (a b : Bool) → (a && b) ≡ true → (a ≡ true) × (b ≡ true)
both_true true b e = (refl, e)
both_true false b e = absurd (cc)

pub not_false : (b : Bool) → not b ≡ false → b ≡ true
not_false true e = refl
not_false false e = absurd (cc)

-- ---- what a head says of the length of an image: the bytes have the preamble, and the length counts the entries

abbrev pub IsWhole : (size : ℕ) → List ℕ → ImageLayout → (n : ℕ) → Type 0
IsWhole size bytes Empty n = (8 ≤ n) × (n ≤ length bytes)
IsWhole size bytes (Filled p) n = (8 ≤ p.start) × (p.start ≤ length bytes) × (n ≡ p.start + size * p.count)

abbrev pub IsWholeHead : (size : ℕ) → List ℕ → Result Head Flaw → Type 0
IsWholeHead size bytes (Err flaw) = ⊤
IsWholeHead size bytes (Ok head) = IsWhole size bytes head.layout head.length

pub flagged_whole : (size : ℕ) (bytes : List ℕ) (longs : ℕ) → 8 ≤ length bytes → 1 ≤ longs → IsWholeHead size bytes (flagged_head size bytes longs)
unfolding flagged_head
flagged_whole size bytes longs whole low =
    let full = filled size (preamble_of bytes longs (is_ordered bytes)) (Some (seed_hash_at bytes)) in
    either (IsWholeHead size bytes) (is_empty bytes) (Ok (vacant 8)) (cond (ltb (length bytes) (8 * longs)) (Err Cut) (Ok full)) (λ e. (omega arith, whole)) (λ e.
    either (IsWholeHead size bytes) (ltb (length bytes) (8 * longs)) (Err Cut) (Ok full) (λ f. tt) (λ f.
    let room : 8 * longs ≤ length bytes = grind (arith, nat_tests, f) in
    (omega (arith, low), room, refl)))

-- every head of a theta image is whole
unflagged_whole : (bytes : List ℕ) (longs : ℕ) (asked : Option ℕ) → 1 ≤ longs → IsWholeHead 8 bytes (unflagged_head bytes longs asked)
unfolding unflagged_head
unflagged_whole bytes longs asked low =
    let P = IsWholeHead 8 bytes in
    let p = preamble_of bytes longs true in
    either P (ltb (length bytes) (8 * longs)) (Err Cut) (cond (is_vacant p) (Ok (vacant (8 * longs))) (Ok (filled 8 p asked))) (λ e. tt) (λ e.
    let room : 8 * longs ≤ length bytes = grind (arith, nat_tests, e) in
    either P (is_vacant p) (Ok (vacant (8 * longs))) (Ok (filled 8 p asked)) (λ f. (omega (arith, low), room)) (λ f. (omega (arith, low), room, refl)))

pub theta_whole : (bytes : List ℕ) → IsWholeHead 8 bytes (theta_head bytes)
unfolding theta_head
theta_whole bytes =
    let P = IsWholeHead 8 bytes in
    let longs = longs_at bytes in
    let version = version_at bytes in
    let family = family_at bytes in
    let seed = Some (seed_hash_at bytes) in
    let from_2 = cond (eqb longs 1) (Ok (vacant 8)) (unflagged_head bytes longs seed) in
    let third = cond (eqb version 3) (flagged_head 8 bytes longs) (cond (eqb version 2) from_2 (unflagged_head bytes 3 None)) in
    let second = cond (not (has_longs bytes)) (Err Malformed) third in
    let first = cond (not (leb 1 version && leb version 3)) (Err (Version version)) second in
    either P (ltb (length bytes) 8) (Err Short) (cond (not (eqb family 3)) (Err (Family family)) first) (λ e. tt) (λ e.
    let whole : 8 ≤ length bytes = grind (arith, nat_tests, e) in
    either P (not (eqb family 3)) (Err (Family family)) first (λ f. tt) (λ f.
    either P (not (leb 1 version && leb version 3)) (Err (Version version)) second (λ g. tt) (λ g.
    either P (not (has_longs bytes)) (Err Malformed) third (λ l. tt) (λ l.
    let low : 1 ≤ longs = grind (arith, nat_tests, (both_true (leb 1 longs) (leb longs 3) (not_false (has_longs bytes) l)).0) in
    either P (eqb version 3) (flagged_head 8 bytes longs) (cond (eqb version 2) from_2 (unflagged_head bytes 3 None)) (λ a. flagged_whole 8 bytes longs whole low) (λ a.
    either P (eqb version 2) from_2 (unflagged_head bytes 3 None) (λ b.
    either P (eqb longs 1) (Ok (vacant 8)) (unflagged_head bytes longs seed) (λ c. (omega arith, whole)) (λ c. unflagged_whole bytes longs seed low)) (λ b. unflagged_whole bytes 3 None (omega arith)))))))

-- every head of a tuple image is whole
pub tuple_whole : (size : ℕ) (bytes : List ℕ) → IsWholeHead size bytes (tuple_head size bytes)
unfolding tuple_head
tuple_whole size bytes =
    let P = IsWholeHead size bytes in
    let longs = longs_at bytes in
    let version = version_at bytes in
    let family = family_at bytes in
    let known = has_longs bytes && is_sketch_type (type_at bytes) in
    let last = cond (not known) (Err Malformed) (flagged_head size bytes longs) in
    let first = cond (not (is_tuple_version version)) (Err (Version version)) last in
    either P (ltb (length bytes) 8) (Err Short) (cond (not (eqb family 9)) (Err (Family family)) first) (λ e. tt) (λ e.
    let whole : 8 ≤ length bytes = grind (arith, nat_tests, e) in
    either P (not (eqb family 9)) (Err (Family family)) first (λ f. tt) (λ f.
    either P (not (is_tuple_version version)) (Err (Version version)) last (λ g. tt) (λ g.
    either P (not known) (Err Malformed) (flagged_head size bytes longs) (λ l. tt) (λ l.
    let fit = both_true (leb 1 longs) (leb longs 3) (both_true (has_longs bytes) (is_sketch_type (type_at bytes)) (not_false known l)).0 in
    flagged_whole size bytes longs whole (grind (arith, nat_tests, fit.0))))))

admitted_whole : (size : ℕ) (bytes : List ℕ) (l : ImageLayout) (n : ℕ) → IsWhole size bytes l n → not (has_theta l) ≡ false → IsWholeLayout bytes (Ok l)
admitted_whole size bytes Empty n w e = tt
admitted_whole size bytes (Filled p) n w e = (w.1, grind (arith, nat_tests, e), grind (arith, nat_tests, e))

-- the layout of a whole head is whole
pub layout_whole : (size : ℕ) (bytes : List ℕ) (h : ℕ) (head : Result Head Flaw) → IsWholeHead size bytes head → IsWholeLayout bytes (layout_of h (length bytes) head)
unfolding layout_of
layout_whole size bytes h (Err flaw) w = tt
layout_whole size bytes h (Ok head) w =
    let last = cond (not (has_theta head.layout)) (Err Theta) (Ok head.layout) in
    let seeded = cond (not (ltb 0 h && is_of_seed h head.seed_hash)) (Err Seed) last in
    either (IsWholeLayout bytes) (ltb (length bytes) head.length) (Err Cut) seeded (λ e. tt) (λ e.
    either (IsWholeLayout bytes) (not (ltb 0 h && is_of_seed h head.seed_hash)) (Err Seed) last (λ f. tt) (λ f.
    either (IsWholeLayout bytes) (not (has_theta head.layout)) (Err Theta) (Ok head.layout) (λ g. tt) (λ g. admitted_whole size bytes head.layout head.length w g)))

-- ---- what an image is read as, by its head

module _ {X : Type 0} (key : X → ℕ) (Spells : List ℕ → X → Type 0) (bytes : List ℕ) (h : ℕ) where
  abbrev pub Comes : Result ImageLayout Flaw → Compact X → Type 0
  Comes l s = LeavesOpen key Spells bytes h l s

  -- a layout allows at most one state
  pub comes_one : (one : (a b u v : List ℕ) (x y : X) → Spells a x → Spells b y → a ++ u ≡ b ++ v → (a ≡ b) × (x ≡ y)) → (l : Result ImageLayout Flaw) (r s : Compact X) → Comes l r → Comes l s → r ≡ s
  comes_one one (Err flaw) r s p q = absurd p
  comes_one one (Ok Empty) r s p q = p ∙ sym q
  comes_one one (Ok (Filled m)) r s p q = p.1 ∙ ap (λ xs. state_after_preamble m h xs) (lists_one Spells one key bytes m h p.0 q.0 p.2 q.2) ∙ sym q.1

  -- a head allows this state: the reader has the seed hash that the image asks for, and the layout allows it
  abbrev pub Heads : Result Head Flaw → Compact X → Type 0
  Heads (Err flaw) s = ⊥
  Heads (Ok head) s = (is_of_seed h head.seed_hash ≡ true) × Comes (Ok head.layout) s

  -- .. and at most one
  pub heads_one : (one : (a b u v : List ℕ) (x y : X) → Spells a x → Spells b y → a ++ u ≡ b ++ v → (a ≡ b) × (x ≡ y)) → (head : Result Head Flaw) (r s : Compact X) → Heads head r → Heads head s → r ≡ s
  heads_one one (Err flaw) r s p q = absurd p
  heads_one one (Ok head) r s p q = comes_one one (Ok head.layout) r s p.1 q.1

  -- equal heads allow the same readings
  pub along : (a b : Result Head Flaw) (s : Compact X) → a ≡ b → Heads b s → Heads a s
  along a b s e p = rw e p

  module _ (size : ℕ) (is_long : (a : List ℕ) (x : X) → Spells a x → size ≤ length a) where
    -- the image of a state that a whole layout allows is within the bytes, and its theta in range
    open_at : (l : ImageLayout) (n : ℕ) (s : Compact X) → IsWhole size bytes l n → Comes (Ok l) s → (n ≤ length bytes) × (has_theta l ≡ true)
    open_at Empty n s w p = (w.1, refl)
    open_at (Filled m) n s w p =
        let f = p.2 in
        let low = f.lawful.theta_low in
        let high = f.lawful.theta_high in
        let long = each_long Spells size is_long p.0 f.content.text f.content.spelled in
        let parts = ap length f.content.there ∙ length-append f.content.text f.content.after in
        let rest = length-drop m.start bytes in
        let counted : length p.0 * size ≡ size * m.count = ap (λ k. k * size) f.content.counted ∙ omega arith in
        let length_is = w.2 in
        (omega (arith, long, parts, rest, counted, length_is, w.1), grind (arith, nat_tests, low, high))

    -- the layout allows what the head allows
    pub open_from : (head : Result Head Flaw) (s : Compact X) → 0 < h → IsWholeHead size bytes head → Heads head s → Comes (layout_of h (length bytes) head) s
    unfolding layout_of
    open_from (Err flaw) s nonzero w p = absurd p
    open_from (Ok head) s nonzero w p =
        let within = open_at head.layout head.length s w p.1 in
        rw (le-ltb (length bytes) head.length within.0, lt-ltb 0 h nonzero, p.0, within.1) p.1

  -- .. and the other way
  pub open_to : (present : ℕ) (head : Result Head Flaw) (s : Compact X) → Comes (layout_of h present head) s → (0 < h) × Heads head s
  unfolding layout_of
  open_to present (Err flaw) s q = absurd q
  open_to present (Ok head) s q =
      let P : Result ImageLayout Flaw → Type 0 = λ l. Comes l s in
      let last = cond (not (has_theta head.layout)) (Err Theta) (Ok head.layout) in
      let seeded = cond (not (ltb 0 h && is_of_seed h head.seed_hash)) (Err Seed) last in
      elim (chosen P (ltb present head.length) (Err Cut) seeded q) [
        | inl a ↦ absurd a.1
        | inr a ↦ elim (chosen P (not (ltb 0 h && is_of_seed h head.seed_hash)) (Err Seed) last a.1) [
          | inl b ↦ absurd b.1
          | inr b ↦ elim (chosen P (not (has_theta head.layout)) (Err Theta) (Ok head.layout) b.1) [
            | inl c ↦ absurd c.1
            | inr c ↦
                let both = both_true (ltb 0 h) (is_of_seed h head.seed_hash) (not_false (ltb 0 h && is_of_seed h head.seed_hash) b.0) in
                (grind (arith, nat_tests, both.0), (both.1, c.1))
          ]
        ]
      ]

  -- ---- version 3

  pub flagged_empty : (size longs : ℕ) → is_empty bytes ≡ true → flagged_head size bytes longs ≡ Ok (vacant 8)
  unfolding flagged_head
  flagged_empty size longs e = rw e refl

  pub flagged_filled : (size longs n : ℕ) → is_empty bytes ≡ false → longs ≡ n → 8 * n ≤ length bytes
      → flagged_head size bytes longs ≡ Ok (filled size (preamble_of bytes n (is_ordered bytes)) (Some (seed_hash_at bytes)))
  unfolding flagged_head
  flagged_filled size longs n e l w = rw (e, l, le-ltb (length bytes) (8 * n) w) refl

  -- the head allows each reading
  pub flagged_from : {s : Compact X} (size longs : ℕ) → ReadsFlagged key Spells bytes longs h s → Heads (flagged_head size bytes longs) s
  flagged_from size longs (empty_image e) = along _ _ _ (flagged_empty size longs e) (refl, refl)
  flagged_from size longs (single_image xs e s l f) = along _ _ _ (flagged_filled size longs 1 e l f.whole) (eq-eqb _ _ s, (xs, refl, f))
  flagged_from size longs (exact_image xs e s l f) = along _ _ _ (flagged_filled size longs 2 e l f.whole) (eq-eqb _ _ s, (xs, refl, f))
  flagged_from size longs (estimating_image xs e s l f) = along _ _ _ (flagged_filled size longs 3 e l f.whole) (eq-eqb _ _ s, (xs, refl, f))

  -- each state that the head allows is a reading
  pub flagged_to : (size longs : ℕ) (s : Compact X) → 1 ≤ longs → longs ≤ 3 → Heads (flagged_head size bytes longs) s → ReadsFlagged key Spells bytes longs h s
  unfolding flagged_head
  flagged_to size longs s low high q =
      let P : Result Head Flaw → Type 0 = λ head. Heads head s in
      let full = filled size (preamble_of bytes longs (is_ordered bytes)) (Some (seed_hash_at bytes)) in
      elim (chosen P (is_empty bytes) (Ok (vacant 8)) (cond (ltb (length bytes) (8 * longs)) (Err Cut) (Ok full)) q) [
        | inl a ↦ rw a.1.1 (empty_image a.0)
        | inr a ↦ elim (chosen P (ltb (length bytes) (8 * longs)) (Err Cut) (Ok full) a.1) [
          | inl b ↦ absurd b.1
          | inr b ↦
              let same : seed_hash_at bytes ≡ h = eqb-true _ _ b.1.0 in
              let Q : ℕ → Type 0 = λ n. Comes (Ok (Filled (preamble_of bytes n (is_ordered bytes)))) s in
              elim (cases_eq longs 1) [
                | inl l ↦ let f = subst Q l b.1.1 in rw f.1 (single_image f.0 a.0 same l f.2)
                | inr more ↦ elim (cases_eq longs 2) [
                  | inl l ↦ let f = subst Q l b.1.1 in rw f.1 (exact_image f.0 a.0 same l f.2)
                  | inr other ↦
                      let l : longs ≡ 3 = omega (arith, low, high, more, other) in
                      let f = subst Q l b.1.1 in rw f.1 (estimating_image f.0 a.0 same l f.2)
                ]
              ]
        ]
      ]
