-- The front of bytes that has the whole image has the same head, and spells the same entries.
use Rattle.std.proofs.Common.{◌≡◌, ℕ, ◌+◌, ◌-◌, ◌*◌, ◌<◌, ◌≤◌, Bool, true, false, cond, not, ◌&&◌, eqb, ltb, leb, List, [], ◌∷◌, ◌++◌, length, take, drop, slice_index, bit_and, Option, Some, None, Result, Ok, Err, refl, sym, ap, subst, ◌∙◌, inl, inr, arith, append-nil, get_or-take, take-take, length-take-le, length-append, length-drop, take_all, le-ltb, eqb-true}
use Rattle.std.proofs.lemmas.Bool.Decides.{nat_tests}
use Rattle.std.proofs.lemmas.Bool.{cases_eq}
use Rattle.std.proofs.lemmas.List.{drop-take, take-append-le}
use Rattle.sketch_base.specs.Bytes.{number}
use Rattle.core_compact.specs.CompactState.{Compact}
use Rattle.core_laws.specs.declared.TheConstants.{MAX_THETA}
use Rattle.core_images.specs.Entry.{SpellsEach, HasEntries}
use Rattle.core_images.specs.Head.{longs_at, version_at, family_at, type_at, has_longs, preamble_of, vacant, filled, flagged_head, unflagged_head, version_2_head, theta_head, tuple_head, is_tuple_version, is_sketch_type, count_in}
use Rattle.core_images.specs.Preamble.{number_at, has_bit, is_empty, is_ordered, is_vacant, seed_hash_at, count_at, theta_at, announced}
use Rattle.core_images.specs.Read.{LeavesOpen}
use Rattle.core_images.specs.declared.flaw.Flaw.{Flaw}
use Rattle.core_images.specs.declared.flaw.Flaw.TheVariants.{Short, Family, Version, Malformed, Cut}
use Rattle.core_images.specs.declared.head.Head.{Head}
use Rattle.core_images.specs.declared.preamble.ImageLayout.{ImageLayout}
use Rattle.core_images.specs.declared.preamble.ImageLayout.TheVariants.{Empty, Filled}
use Rattle.core_images.specs.declared.preamble.Preamble.{Preamble}
use Rattle.core_images.proofs.ImageLayouts.{chosen, both_true, IsWhole}

module _ (bytes : List ℕ) (n : ℕ) where
  byte_same : (i : ℕ) → i < n → slice_index (take n bytes) i ≡ slice_index bytes i
  byte_same i lt = get_or-take n bytes i 0 lt

  number_same : (k i : ℕ) → i + k ≤ n → number_at k (take n bytes) i ≡ number_at k bytes i
  number_same k i le =
      let parted : n ≡ i + (n - i) = omega arith in
      let room : k ≤ n - i = omega arith in
      ap (λ (m : ℕ). number (take k (drop i (take m bytes)))) parted
      ∙ ap (λ (xs : List ℕ). number (take k xs)) (drop-take i (n - i) bytes)
      ∙ ap number (take-take k (n - i) (drop i bytes) room)

  bit_same : (bit : ℕ) → 8 ≤ n → has_bit (take n bytes) 5 bit ≡ has_bit bytes 5 bit
  bit_same bit le = ap (λ (b : ℕ). not (eqb (bit_and b bit) 0)) (byte_same 5 (omega arith))

  preamble_same : (longs : ℕ) (ordered : Bool) → 1 ≤ longs → longs ≤ 3 → 8 * longs ≤ n → preamble_of (take n bytes) longs ordered ≡ preamble_of bytes longs ordered
  preamble_same longs ordered low high room =
      let P : ℕ → Type 0 = λ k. 8 * k ≤ n → preamble_of (take n bytes) k ordered ≡ preamble_of bytes k ordered in
      elim (cases_eq longs 1) [
        | inl e ↦ subst P (sym e) (λ le. refl) room
        | inr more ↦ elim (cases_eq longs 2) [
          | inl e ↦ subst P (sym e) (λ le. ap (λ (c : ℕ). announced 2 c MAX_THETA ordered) (number_same 4 8 (omega arith))) room
          | inr other ↦
              let e : longs ≡ 3 = omega (arith, low, high, more, other) in
              subst P (sym e) (λ le.
              let count = number_same 4 8 (omega arith) in
              let theta = number_same 8 16 (omega arith) in
              λ i. announced 3 (count i) (theta i) ordered) room
        ]
      ]

-- a flaw is no head
no_head : (flaw : Flaw) (head : Head) → Err flaw ≡ Ok head → ⊥
no_head flaw head e = cc

abbrev count_at_head : Head → ℕ
count_at_head head = count_in head.layout

abbrev length_in : Result Head Flaw → ℕ
length_in (Err flaw) = 0
length_in (Ok head) = head.length

-- ---- the head of a front that is not shorter than the image

module _ (bytes : List ℕ) (n : ℕ) (head : Head) (long : 8 ≤ n) (enough : head.length ≤ n) (within : n ≤ length bytes) where
  abbrev front : List ℕ
  front = take n bytes

  abbrev Is : Result Head Flaw → Type 0
  Is found = found ≡ Ok head

  front_long : length front ≡ n
  front_long = length-take-le n bytes within

  front_whole : (k : ℕ) → k ≤ n → ltb (length front) k ≡ false
  front_whole k le = le-ltb (length front) k (omega (arith, front_long, le))

  filled_same : (size longs : ℕ) (p q : Preamble) (asked other : Option ℕ) → p ≡ q → asked ≡ other → Is (Ok (filled size q other)) → Is (Ok (filled size p asked))
  filled_same size longs p q asked other e f is = (λ i. Ok (filled size (e i) (f i))) ∙ is

  pub flagged_same : (size longs : ℕ) → 1 ≤ longs → longs ≤ 3 → Is (flagged_head size bytes longs) → Is (flagged_head size front longs)
  unfolding flagged_head
  flagged_same size longs low high is =
      let full = filled size (preamble_of bytes longs (is_ordered bytes)) (Some (seed_hash_at bytes)) in
      elim (chosen Is (is_empty bytes) (Ok (vacant 8)) (cond (ltb (length bytes) (8 * longs)) (Err Cut) (Ok full)) is) [
        | inl a ↦ rw (bit_same bytes n 4 long ∙ a.0) a.1
        | inr a ↦ elim (chosen Is (ltb (length bytes) (8 * longs)) (Err Cut) (Ok full) a.1) [
          | inl b ↦ absurd (no_head Cut head b.1)
          | inr b ↦
              let length_is : 8 * longs + size * count_at_head full ≡ head.length = ap length_in b.1 in
              let room : 8 * longs ≤ n = omega (arith, length_is, enough) in
              let order = bit_same bytes n 16 long in
              let p = preamble_same bytes n longs (is_ordered front) low high room ∙ ap (λ (o : Bool). preamble_of bytes longs o) order in
              let seed = ap (λ (k : ℕ). Some k) (number_same bytes n 2 6 (omega (arith, long))) in
              rw (bit_same bytes n 4 long ∙ a.0, front_whole (8 * longs) room) (filled_same size longs _ _ _ _ p seed b.1)
        ]
      ]

  pub unflagged_same : (longs : ℕ) (asked other : Option ℕ) → asked ≡ other → 1 ≤ longs → longs ≤ 3 → Is (unflagged_head bytes longs other) → Is (unflagged_head front longs asked)
  unfolding unflagged_head
  unflagged_same longs asked other same low high is =
      let p = preamble_of bytes longs true in
      let full = filled 8 p other in
      let G : Preamble → Type 0 = λ q. Is (cond (is_vacant q) (Ok (vacant (8 * longs))) (Ok (filled 8 q asked))) in
      elim (chosen Is (ltb (length bytes) (8 * longs)) (Err Cut) (cond (is_vacant p) (Ok (vacant (8 * longs))) (Ok full)) is) [
        | inl a ↦ absurd (no_head Cut head a.1)
        | inr a ↦ elim (chosen Is (is_vacant p) (Ok (vacant (8 * longs))) (Ok full) a.1) [
          | inl b ↦
              let length_is : 8 * longs ≡ head.length = ap length_in b.1 in
              let room : 8 * longs ≤ n = omega (arith, length_is, enough) in
              rw (front_whole (8 * longs) room) (subst G (sym (preamble_same bytes n longs true low high room)) (rw (b.0) b.1))
          | inr b ↦
              let length_is : 8 * longs + 8 * count_at_head full ≡ head.length = ap length_in b.1 in
              let room : 8 * longs ≤ n = omega (arith, length_is, enough) in
              rw (front_whole (8 * longs) room) (subst G (sym (preamble_same bytes n longs true low high room)) (rw (b.0, same) b.1))
        ]
      ]

  -- the front is too long for a flaw of its length, and its first bytes are the same
  fits : (f : Bool) → not f ≡ false → f ≡ true
  fits true e = refl
  fits false e = absurd (cc)

  low_of : (longs : ℕ) → (leb 1 longs && leb longs 3) ≡ true → (1 ≤ longs) × (longs ≤ 3)
  low_of longs e = (grind (arith, nat_tests), grind (arith, nat_tests))

  pub theta_same : Is (theta_head bytes) → Is (theta_head front)
  unfolding theta_head
  theta_same is =
      let b0 : longs_at front ≡ longs_at bytes = byte_same bytes n 0 (omega (arith, long)) in
      let b1 : version_at front ≡ version_at bytes = byte_same bytes n 1 (omega (arith, long)) in
      let b2 : family_at front ≡ family_at bytes = byte_same bytes n 2 (omega (arith, long)) in
      let longs = longs_at bytes in
      let version = version_at bytes in
      let family = family_at bytes in
      let from_1 = unflagged_head bytes 3 None in
      let from_2 = cond (eqb version 2) (version_2_head bytes) from_1 in
      let from_3 = cond (eqb version 3) (flagged_head 8 bytes longs) from_2 in
      let by_longs = cond (not (has_longs bytes)) (Err Malformed) from_3 in
      let read = leb 1 version && leb version 3 in
      let by_version = cond (not read) (Err (Version version)) by_longs in
      let by_family = cond (not (eqb family 3)) (Err (Family family)) by_version in
      elim (chosen Is (ltb (length bytes) 8) (Err Short) by_family is) [
        | inl a ↦ absurd (no_head Short head a.1)
        | inr a ↦ elim (chosen Is (not (eqb family 3)) (Err (Family family)) by_version a.1) [
          | inl b ↦ absurd (no_head (Family family) head b.1)
          | inr b ↦ elim (chosen Is (not read) (Err (Version version)) by_longs b.1) [
            | inl c ↦ absurd (no_head (Version version) head c.1)
            | inr c ↦ elim (chosen Is (not (has_longs bytes)) (Err Malformed) from_3 c.1) [
              | inl d ↦ absurd (no_head Malformed head d.1)
              | inr d ↦
                  let fit = low_of longs (fits (has_longs bytes) d.0) in
                  elim (chosen Is (eqb version 3) (flagged_head 8 bytes longs) from_2 d.1) [
                    | inl e ↦ rw (front_whole 8 long, b2, b1, b0, b.0, c.0, d.0, e.0) (flagged_same 8 longs fit.0 fit.1 e.1)
                    | inr e ↦ elim (chosen Is (eqb version 2) (version_2_head bytes) from_1 e.1) [
                      | inl f ↦ elim (chosen Is (eqb longs 1) (Ok (vacant 8)) (unflagged_head bytes longs (Some (seed_hash_at bytes))) f.1) [
                        | inl g ↦ rw (front_whole 8 long, b2, b1, b0, b.0, c.0, d.0, e.0, f.0, g.0) g.1
                        | inr g ↦
                            let seed = ap (λ (k : ℕ). Some k) (number_same bytes n 2 6 (omega (arith, long))) in
                            rw (front_whole 8 long, b2, b1, b0, b.0, c.0, d.0, e.0, f.0, g.0) (unflagged_same longs _ _ seed fit.0 fit.1 g.1)
                      ]
                      | inr f ↦ rw (front_whole 8 long, b2, b1, b0, b.0, c.0, d.0, e.0, f.0) (unflagged_same 3 _ _ refl (omega arith) (omega arith) f.1)
                    ]
                  ]
            ]
          ]
        ]
      ]

  pub tuple_same : (size : ℕ) → Is (tuple_head size bytes) → Is (tuple_head size front)
  unfolding tuple_head
  tuple_same size is =
      let b0 : longs_at front ≡ longs_at bytes = byte_same bytes n 0 (omega (arith, long)) in
      let b1 : version_at front ≡ version_at bytes = byte_same bytes n 1 (omega (arith, long)) in
      let b2 : family_at front ≡ family_at bytes = byte_same bytes n 2 (omega (arith, long)) in
      let b3 : type_at front ≡ type_at bytes = byte_same bytes n 3 (omega (arith, long)) in
      let longs = longs_at bytes in
      let version = version_at bytes in
      let family = family_at bytes in
      let known = has_longs bytes && is_sketch_type (type_at bytes) in
      let last = flagged_head size bytes longs in
      let by_longs = cond (not known) (Err Malformed) last in
      let by_version = cond (not (is_tuple_version version)) (Err (Version version)) by_longs in
      let by_family = cond (not (eqb family 9)) (Err (Family family)) by_version in
      elim (chosen Is (ltb (length bytes) 8) (Err Short) by_family is) [
        | inl a ↦ absurd (no_head Short head a.1)
        | inr a ↦ elim (chosen Is (not (eqb family 9)) (Err (Family family)) by_version a.1) [
          | inl b ↦ absurd (no_head (Family family) head b.1)
          | inr b ↦ elim (chosen Is (not (is_tuple_version version)) (Err (Version version)) by_longs b.1) [
            | inl c ↦ absurd (no_head (Version version) head c.1)
            | inr c ↦ elim (chosen Is (not known) (Err Malformed) last c.1) [
              | inl d ↦ absurd (no_head Malformed head d.1)
              | inr d ↦
                  let fit = low_of longs (both_true (has_longs bytes) (is_sketch_type (type_at bytes)) (fits known d.0)).0 in
                  rw (front_whole 8 long, b3, b2, b1, b0, b.0, c.0, d.0) (flagged_same size longs fit.0 fit.1 d.1)
            ]
          ]
        ]
      ]

-- ---- entries of one size end where the head says

module _ {X : Type 0} (key : X → ℕ) (Spells : List ℕ → X → Type 0) (size : ℕ) (sized : (text : List ℕ) (x : X) → Spells text x → length text ≡ size) where
  entries_long : (xs : List X) (text : List ℕ) → SpellsEach Spells text xs → length text ≡ length xs * size
  entries_long [] text s = let none : length text ≡ 0 = ap length s in omega (arith, none)
  entries_long (x ∷ xs) text s =
      let joined = ap length s.2 ∙ length-append s.0 s.1 in
      let first = sized s.0 x s.3 in
      let others = entries_long xs s.1 s.4 in
      omega (arith, joined, first, others)

  module _ (bytes : List ℕ) (h : ℕ) where
    has_alone : (p : Preamble) (xs : List X) → HasEntries key Spells bytes p h xs → (p.start + size * p.count ≤ length bytes) × HasEntries key Spells (take (p.start + size * p.count) bytes) p h xs
    has_alone p xs has =
        let text = has.content.text in
        let n = size * p.count in
        let text_long : length text ≡ n = entries_long xs text has.content.spelled ∙ ap (λ (k : ℕ). k * size) has.content.counted ∙ omega arith in
        let parts = ap length has.content.there ∙ length-append text has.content.after in
        let rest = length-drop p.start bytes in
        let room : p.start + n ≤ length bytes = omega (arith, parts, rest, text_long, has.whole) in
        let taken = length-take-le (p.start + n) bytes room in
        let long : n ≤ length text = omega (arith, text_long) in
        let short : length text ≤ n = omega (arith, text_long) in
        let same : drop p.start (take (p.start + n) bytes) ≡ text ++ [] =
        drop-take p.start n bytes ∙ ap (take n) has.content.there ∙ take-append-le n text has.content.after long ∙ take_all n text short ∙ sym (append-nil text) in (
          room,
          record {
            whole = omega (arith, taken);
            content = record { text = text; after = []; there = same; spelled = has.content.spelled; counted = has.content.counted };
            lawful = has.lawful;
          },
        )

    -- the image alone, of the length that a whole head says, is read as the same
    pub open_alone : (l : ImageLayout) (n : ℕ) (s : Compact X) → IsWhole size bytes l n → LeavesOpen key Spells bytes h (Ok l) s
        → (8 ≤ n) × (n ≤ length bytes) × LeavesOpen key Spells (take n bytes) h (Ok l) s × (count_in l ≡ length s.entries)
    open_alone Empty n s w e = (w.0, w.1, e, ap (λ (t : Compact X). length t.entries) (sym e))
    open_alone (Filled p) n s w (xs, e, f) =
        let alone = has_alone p xs f in
        let is = w.2 in
        (omega (arith, is, w.0), subst (λ (k : ℕ). k ≤ length bytes) (sym is) alone.0, subst (λ (k : ℕ). LeavesOpen key Spells (take k bytes) h (Ok (Filled p)) s) (sym is) (xs, e, alone.1), sym f.content.counted ∙ ap (λ (t : Compact X). length t.entries) (sym e))
