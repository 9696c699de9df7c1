-- The heads of theta images: each reading of the relation has a head, and each head is a reading.
use Rattle.std.proofs.Common.{◌≡◌, ℕ, ◌*◌, ◌<◌, ◌≤◌, Bool, true, false, cond, not, List, length, take, Option, Some, None, Result, Ok, Err, refl, ◌∙◌, inl, inr, arith, le-ltb, le-leb, eq-eqb, eqb-true, subst, ltb, leb, eqb, ◌&&◌}
use Rattle.std.proofs.lemmas.Bool.Decides.{nat_tests}
use Rattle.std.proofs.lemmas.Bool.{cases_eq, and_from}
use Rattle.core_compact.specs.CompactState.{Compact}
use Rattle.core_laws.specs.Entries.{hash_key}
use Rattle.core_images.specs.Preamble.{Begins, is_vacant, seed_hash_at}
use Rattle.core_images.specs.Entry.{SpellsHash}
use Rattle.core_images.specs.Head.{longs_at, version_at, family_at, has_longs, preamble_of, vacant, filled, flagged_head, unflagged_head, version_2_head, theta_head, theta_layout, is_of_seed, IsWholeLayout, count_of}
use Rattle.core_images.specs.HashSpelling.{hash_long}
use Rattle.core_images.specs.declared.flaw.Flaw.{Flaw}
use Rattle.core_images.specs.declared.flaw.Flaw.TheVariants.{Short, Family, Version, Malformed, Cut}
use Rattle.core_images.specs.declared.head.Head.{Head}
use Rattle.core_images.proofs.Fronts.{theta_same, open_alone}
use Rattle.core_images.proofs.ImageLayouts.{Comes, Heads, IsWholeHead, along, chosen, both_true, not_false, flagged_from, flagged_to, theta_whole, open_from, open_to, layout_whole}
use Rattle.theta_sketches.specs.Image.{SpellsSketch, version_3, version_2_empty, version_2_exact, version_2_estimating, version_1, ReadsUnflagged, vacant_image, filled_image, Reads, BeginsWith}

module _ (bytes : List ℕ) where
  abbrev from_1 : Result Head Flaw
  from_1 = unflagged_head bytes 3 None

  abbrev from_2 : (longs : ℕ) → Result Head Flaw
  from_2 longs = cond (eqb longs 1) (Ok (vacant 8)) (unflagged_head bytes longs (Some (seed_hash_at bytes)))

  abbrev by_version : (version longs : ℕ) → Result Head Flaw
  by_version version longs = cond (eqb version 3) (flagged_head 8 bytes longs) (cond (eqb version 2) (from_2 longs) from_1)

  -- the head of bytes that begin as an image of some version
  begun : (longs version : ℕ) → Begins bytes longs version 3 → 1 ≤ version → version ≤ 3 → theta_head bytes ≡ by_version version longs
  unfolding theta_head
  begun longs version b low high =
      let known : (leb 1 version && leb version 3) ≡ true = and_from (leb 1 version) (leb version 3) (le-leb 1 version low) (le-leb version 3 high) in
      let fit : (leb 1 longs && leb longs 3) ≡ true = and_from (leb 1 longs) (leb longs 3) (le-leb 1 longs b.longs_low) (le-leb longs 3 b.longs_high) in
      rw (le-ltb (length bytes) 8 b.whole, b.family_is, b.version_is, b.longs_are, known, fit) refl

module _ (bytes : List ℕ) (h : ℕ) where
  abbrev Has : Result Head Flaw → Compact ℕ → Type 0
  Has head s = Heads hash_key SpellsHash bytes h head s

  has_along : (a b : Result Head Flaw) (s : Compact ℕ) → a ≡ b → Has b s → Has a s
  has_along a b s e p = along hash_key SpellsHash bytes h a b s e p

  unflagged_vacant : (longs : ℕ) (asked : Option ℕ) → 8 * longs ≤ length bytes → is_vacant (preamble_of bytes longs true) ≡ true → unflagged_head bytes longs asked ≡ Ok (vacant (8 * longs))
  unfolding unflagged_head
  unflagged_vacant longs asked w e = rw (le-ltb (length bytes) (8 * longs) w, e) refl

  unflagged_filled : (longs : ℕ) (asked : Option ℕ) → 8 * longs ≤ length bytes → is_vacant (preamble_of bytes longs true) ≡ false → unflagged_head bytes longs asked ≡ Ok (filled 8 (preamble_of bytes longs true) asked)
  unfolding unflagged_head
  unflagged_filled longs asked w e = rw (le-ltb (length bytes) (8 * longs) w, e) refl

  unflagged_from : (longs : ℕ) (asked : Option ℕ) (reported : ℕ) {s : Compact ℕ} → (reported ≡ h → is_of_seed h asked ≡ true) → ReadsUnflagged bytes (preamble_of bytes longs true) reported h s → Has (unflagged_head bytes longs asked) s
  unflagged_from longs asked reported seed (vacant_image w e) = has_along _ _ _ (unflagged_vacant longs asked w e) (refl, refl)
  unflagged_from longs asked reported seed (filled_image xs e t f) = has_along _ _ _ (unflagged_filled longs asked f.whole e) (seed t, (xs, refl, f))

  -- the head allows each reading
  pub theta_from : {s : Compact ℕ} → SpellsSketch bytes h s → Has (theta_head bytes) s
  theta_from (version_3 longs s b r) = has_along _ _ _ (begun bytes longs 3 b (omega arith) (omega arith)) (flagged_from hash_key SpellsHash bytes h 8 longs r)
  theta_from (version_2_empty b) = has_along _ _ _ (begun bytes 1 2 b (omega arith) (omega arith)) (refl, refl)
  theta_from (version_2_exact s b r) = has_along _ _ _ (begun bytes 2 2 b (omega arith) (omega arith)) (unflagged_from 2 (Some (seed_hash_at bytes)) (seed_hash_at bytes) (λ e. eq-eqb _ _ e) r)
  theta_from (version_2_estimating s b r) = has_along _ _ _ (begun bytes 3 2 b (omega arith) (omega arith)) (unflagged_from 3 (Some (seed_hash_at bytes)) (seed_hash_at bytes) (λ e. eq-eqb _ _ e) r)
  theta_from (version_1 longs s b r) = has_along _ _ _ (begun bytes longs 1 b (omega arith) (omega arith)) (unflagged_from 3 None h (λ e. refl) r)

  unflagged_to : (longs : ℕ) (asked : Option ℕ) (reported : ℕ) (s : Compact ℕ) → (is_of_seed h asked ≡ true → reported ≡ h) → Has (unflagged_head bytes longs asked) s → ReadsUnflagged bytes (preamble_of bytes longs true) reported h s
  unfolding unflagged_head
  unflagged_to longs asked reported s seed q =
      let P : Result Head Flaw → Type 0 = λ head. Has head s in
      let p = preamble_of bytes longs true in
      elim (chosen P (ltb (length bytes) (8 * longs)) (Err Cut) (cond (is_vacant p) (Ok (vacant (8 * longs))) (Ok (filled 8 p asked))) q) [
        | inl a ↦ absurd a.1
        | inr a ↦
            let whole : 8 * longs ≤ length bytes = grind (arith, nat_tests, a.0) in
            elim (chosen P (is_vacant p) (Ok (vacant (8 * longs))) (Ok (filled 8 p asked)) a.1) [
              | inl b ↦ rw b.1.1 (vacant_image whole b.0)
              | inr b ↦ rw b.1.1.1 (filled_image b.1.1.0 b.0 (seed b.1.0) b.1.1.2)
            ]
      ]

  version_2_to : (longs : ℕ) (s : Compact ℕ) → Begins bytes longs 2 3 → Has (from_2 bytes longs) s → SpellsSketch bytes h s
  version_2_to longs s b q =
      let P : Result Head Flaw → Type 0 = λ head. Has head s in
      let B : ℕ → Type 0 = λ n. Begins bytes n 2 3 in
      let Q : ℕ → Type 0 = λ n. ReadsUnflagged bytes (preamble_of bytes n true) (seed_hash_at bytes) h s in
      elim (chosen P (eqb longs 1) (Ok (vacant 8)) (unflagged_head bytes longs (Some (seed_hash_at bytes))) q) [
        | inl c ↦ rw c.1.1 (version_2_empty (subst B (eqb-true longs 1 c.0) b))
        | inr c ↦
            let r = unflagged_to longs (Some (seed_hash_at bytes)) (seed_hash_at bytes) s (λ e. eqb-true _ _ e) c.1 in
            elim (cases_eq longs 2) [
              | inl e ↦ version_2_exact s (subst B e b) (subst Q e r)
              | inr n ↦
                  let e : longs ≡ 3 = grind (arith, nat_tests, c.0, n, b.longs_low, b.longs_high) in
                  version_2_estimating s (subst B e b) (subst Q e r)
            ]
      ]

  -- each state that the head allows is a reading
  pub theta_to : (s : Compact ℕ) → Has (theta_head bytes) s → SpellsSketch bytes h s
  unfolding theta_head
  theta_to s q =
      let P : Result Head Flaw → Type 0 = λ head. Has head s in
      let longs = longs_at bytes in
      let version = version_at bytes in
      let family = family_at bytes in
      let known = leb 1 version && leb version 3 in
      let third = by_version bytes version longs in
      let second = cond (not (has_longs bytes)) (Err Malformed) third in
      let first = cond (not known) (Err (Version version)) second in
      elim (chosen P (ltb (length bytes) 8) (Err Short) (cond (not (eqb family 3)) (Err (Family family)) first) q) [
        | inl a ↦ absurd a.1
        | inr a ↦ elim (chosen P (not (eqb family 3)) (Err (Family family)) first a.1) [
          | inl f ↦ absurd f.1
          | inr f ↦ elim (chosen P (not known) (Err (Version version)) second f.1) [
            | inl v ↦ absurd v.1
            | inr v ↦ elim (chosen P (not (has_longs bytes)) (Err Malformed) third v.1) [
              | inl l ↦ absurd l.1
              | inr l ↦
                  let whole : 8 ≤ length bytes = grind (arith, nat_tests, a.0) in
                  let theta : family ≡ 3 = eqb-true family 3 (not_false (eqb family 3) f.0) in
                  let fit = both_true (leb 1 longs) (leb longs 3) (not_false (has_longs bytes) l.0) in
                  let low : 1 ≤ longs = grind (arith, nat_tests, fit.0) in
                  let high : longs ≤ 3 = grind (arith, nat_tests, fit.1) in
                  let begins : (n : ℕ) → version ≡ n → Begins bytes longs n 3 = λ n e. record { whole = whole; longs_are = refl; longs_low = low; longs_high = high; version_is = e; family_is = theta } in
                  elim (chosen P (eqb version 3) (flagged_head 8 bytes longs) (cond (eqb version 2) (from_2 bytes longs) (from_1 bytes)) l.1) [
                    | inl b ↦ version_3 longs s (begins 3 (eqb-true version 3 b.0)) (flagged_to hash_key SpellsHash bytes h 8 longs s low high b.1)
                    | inr b ↦ elim (chosen P (eqb version 2) (from_2 bytes longs) (from_1 bytes) b.1) [
                      | inl c ↦ version_2_to longs s (begins 2 (eqb-true version 2 c.0)) c.1
                      | inr c ↦
                          let read = both_true (leb 1 version) (leb version 3) (not_false known v.0) in
                          let one : version ≡ 1 = grind (arith, nat_tests, b.0, c.0, read.0, read.1) in
                          version_1 longs s (begins 1 one) (unflagged_to 3 None h s (λ e. refl) c.1)
                    ]
                  ]
            ]
          ]
        ]
      ]

  -- ---- the layout for a reader

  pub whole_layout : IsWholeLayout bytes (theta_layout h bytes)
  whole_layout = layout_whole 8 bytes h (theta_head bytes) (theta_whole bytes)

  pub layout_from : (s : Compact ℕ) → Reads bytes h s → Comes hash_key SpellsHash bytes h (theta_layout h bytes) s
  layout_from s r = open_from hash_key SpellsHash bytes h 8 hash_long (theta_head bytes) s r.seeded (theta_whole bytes) (theta_from r.spelled)

  pub layout_to : (s : Compact ℕ) → Comes hash_key SpellsHash bytes h (theta_layout h bytes) s → Reads bytes h s
  layout_to s q =
      let p = open_to hash_key SpellsHash bytes h (length bytes) (theta_head bytes) s q in
      record { seeded = p.0; spelled = theta_to s p.1 }

-- ---- the image alone

-- what the preamble says of bytes that are read: where the image ends that alone is read as the same, and how many entries it has
pub record IsTold (bytes : List ℕ) (h : ℕ) (s : Compact ℕ) : Type 0 where
  pub head : Head
  pub head_is : theta_head bytes ≡ Ok head
  pub begins : BeginsWith bytes h head.length s
  pub counted : count_of (theta_head bytes) ≡ length s.entries

told_by : (bytes : List ℕ) (h : ℕ) (s : Compact ℕ) (found : Result Head Flaw) → 0 < h → theta_head bytes ≡ found → IsWholeHead 8 bytes found → Has bytes h found s → IsTold bytes h s
told_by bytes h s (Err flaw) nonzero e w p = absurd p
told_by bytes h s (Ok head) nonzero e w p =
    let n = head.length in
    let alone = open_alone hash_key SpellsHash 8 (λ text x spelled. spelled.0) bytes h head.layout n s w p.1 in
    let enough : n ≤ n = omega arith in
    let same = theta_same bytes n head alone.0 enough alone.1 e in record {
      head = head;
      head_is = e;
      begins = record {
        size_is = rw e refl;
        within = alone.1;
        alone = record { seeded = nonzero; spelled = theta_to (take n bytes) h s (has_along (take n bytes) h _ _ s same (p.0, alone.2)) };
      };
      counted = rw e alone.3;
    }

pub told : (bytes : List ℕ) (h : ℕ) (s : Compact ℕ) → Reads bytes h s → IsTold bytes h s
told bytes h s r = told_by bytes h s (theta_head bytes) r.seeded refl (theta_whole bytes) (theta_from bytes h r.spelled)
