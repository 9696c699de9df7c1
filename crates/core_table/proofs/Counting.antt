-- The effects of calls on the counts of a table.
use Rattle.std.proofs.Common.{◌≡◌, ℕ, zero, suc, ◌+◌, ◌*◌, ◌/◌, ◌^◌, ◌<◌, ◌≤◌, min, true, false, leb, inl, inr, refl, arith}
use Rattle.std.proofs.lemmas.Bool.{cases_lt}
use Rattle.std.proofs.lemmas.Bool.Decides.{nat_tests}
use Rattle.std.proofs.Math.Nat.{two-pow-succ}
use Rattle.std.proofs.Math.Pow.{pow_mono}
use Rattle.core_table.specs.declared.insertion.Counts.{Counts}
use Rattle.core_table.specs.HashTable.{HasSize, CountsAgree, nothing_done, threshold, ticked, size_after, count_after}
use Rattle.core_table.proofs.Tables.{eights, twice, threshold_growing, full}

-- eight is the third power of two
large_enough : (nom : ℕ) → 8 ≤ 2 ^ nom → 3 ≤ nom
large_enough nom large =
    elim (cases_lt nom 3) [
      | inl lt ↦ let most : 2 ^ nom ≤ 2 ^ 2 = pow_mono {i = nom} {j = 2} (omega (arith, lt)) in absurd (omega (arith, most, large))
      | inr ge ↦ ge
    ]

-- a power is above its exponent
above : (n : ℕ) → n < 2 ^ n
above zero = omega arith
above (suc n) = omega (arith, above n, two-pow-succ n)

twice_above : (n : ℕ) → 2 * n ≤ 2 ^ n
twice_above zero = omega arith
twice_above (suc n) = omega (arith, above n, two-pow-succ n)

pub counted_nothing : (lg nom : ℕ) → CountsAgree lg nom 0 nothing_done
counted_nothing lg nom = record { fresh = omega arith; rare = omega arith; few_placed = λ _. inl (refl, (omega arith, (omega arith, omega arith))) }

module _ (lg nom count : ℕ) (done : Counts) (is : CountsAgree lg nom count done) where
  -- one more entry
  pub counted_more : CountsAgree lg nom (count + 1) (record done { inserted = done.inserted + 1; fresh = done.fresh + 1 })
  counted_more = record {
    fresh = omega (arith, is.fresh);
    rare = omega (arith, is.rare);
    few_placed = λ e. elim (is.few_placed e) [
      | inl first ↦ inl (omega (arith, first.0), (omega (arith, first.1.0), (first.1.1.0, omega (arith, first.1.1.1))))
      | inr later ↦ inr (later.0, omega (arith, later.1))
    ];
  }

  -- one more entry, over more slots
  pub counted_grown : (new_lg : ℕ) → lg ≤ nom → 5 ≤ lg → lg + 1 ≤ new_lg → count ≤ 2 ^ lg / 2 → 2 ^ lg / 2 < count + 1 →
      CountsAgree new_lg nom (count + 1) (record done { inserted = done.inserted + 1; fresh = done.fresh + 1; placed = done.placed + (count + 1) })
  counted_grown new_lg growing low wider limited full =
      let double = two-pow-succ lg in
      let wide : 2 ^ suc lg ≤ 2 ^ new_lg = pow_mono {i = suc lg} {j = new_lg} (omega (arith, wider)) in
      let room = twice_above lg in
      record {
        fresh = omega (arith, is.fresh);
        rare = omega (arith, is.rare);
        few_placed = λ e. elim (is.few_placed e) [
          | inl first ↦ inl (omega (arith, first.0), (omega (arith, first.1.0), (omega (arith, first.1.1.0, double, wide, limited, wider), omega (arith, first.1.0, first.1.1.0, full, room))))
          | inr later ↦ absurd (omega (arith, later.0, growing))
        ];
      }

  -- one more entry, and a rebuild
  pub counted_rebuilt : 3 ≤ nom → lg ≡ nom + 1 → 15 * 2 ^ nom / 8 < count + 1 →
      CountsAgree lg nom (2 ^ nom) (record done { inserted = done.inserted + 1; fresh = 0; placed = done.placed + 2 ^ nom; rebuilds = done.rebuilds + 1 })
  counted_rebuilt large at full =
      let e = eights nom large in
      let k : ℕ = 2 ^ nom in
      let room = above nom in
      let slots : 2 ^ lg ≡ 2 * k = twice lg nom at in
      let many : 7 * k < 8 * (done.fresh + 1) + 1 = omega (arith, is.fresh, full, e.1) in
      let product : 7 * k * (done.rebuilds + 1) ≡ 7 * k * done.rebuilds + 7 * k = omega arith in
      record {
        fresh = omega arith;
        rare = omega (arith, is.rare, many, product);
        few_placed = λ z. elim (is.few_placed z) [
          | inl first ↦ inr (omega (arith, at), omega (arith, first.1.0, first.1.1.0, slots, at, room, full, e.1))
          | inr later ↦ inr (later.0, omega (arith, later.1, many))
        ];
      }

  -- a cut that no insertion caused
  pub counted_trimmed : (placed : ℕ) → CountsAgree lg nom (2 ^ nom) (record done { placed = placed; trims = done.trims + 1 })
  counted_trimmed placed = record { fresh = omega arith; rare = is.rare; few_placed = λ z. absurd (omega (arith, z)) }

  -- fewer entries
  pub counted_fewer : (fewer : ℕ) → fewer ≤ count → CountsAgree lg nom fewer done
  counted_fewer fewer le = record {
    fresh = omega (arith, is.fresh, le);
    rare = is.rare;
    few_placed = λ e. elim (is.few_placed e) [ inl first ↦ inl (first.0, (omega (arith, first.1.0, le), first.1.1)) | inr later ↦ inr later ];
  }

  -- looks count for nothing else
  pub counted_looks : (looks : ℕ) → CountsAgree lg nom count (record done { looks = looks })
  counted_looks looks = record { fresh = is.fresh; rare = is.rare; few_placed = is.few_placed }

  -- rebuilds are rare
  pub rebuilds_few : 7 * 2 ^ nom * done.rebuilds ≤ 8 * done.inserted
  rebuilds_few = omega (arith, is.rare)

  -- at most three times the entries that were created are placed
  pub placed_few : done.trims ≡ 0 → done.placed ≤ 3 * done.inserted
  placed_few e = elim (is.few_placed e) [ inl first ↦ first.1.1.1 | inr later ↦ omega (arith, later.1) ]

-- the results of an insertion that creates an entry, case by case
pub record IsTicked (lg nom grow count new_lg new_count : ℕ) (done new : Counts) : Type 0 where
  pub size : size_after lg nom grow count ≡ new_lg
  pub retained : count_after lg nom count ≡ new_count
  pub counts : ticked lg nom count done ≡ new

module _ (lg nom grow count : ℕ) (done : Counts) where
  pub few_ticked : count + 1 ≤ threshold lg nom → IsTicked lg nom grow count lg (count + 1) done (record done { inserted = done.inserted + 1; fresh = done.fresh + 1 })
  few_ticked limited = let e : leb (count + 1) (threshold lg nom) ≡ true = grind (arith, nat_tests) in record { size = rw e refl; retained = rw e refl; counts = rw e refl }

  pub grown_ticked : threshold lg nom < count + 1 → lg ≤ nom → IsTicked lg nom grow count (min (lg + grow) (nom + 1)) (count + 1) done (record done { inserted = done.inserted + 1; fresh = done.fresh + 1; placed = done.placed + (count + 1) })
  grown_ticked full growing =
      let e : leb (count + 1) (threshold lg nom) ≡ false = grind (arith, nat_tests) in
      let f : leb lg nom ≡ true = grind (arith, nat_tests) in
      record { size = rw (e, f) refl; retained = rw (e, f) refl; counts = rw (e, f) refl }

  pub rebuilt_ticked : threshold lg nom < count + 1 → nom < lg → IsTicked lg nom grow count lg (2 ^ nom) done (record done { inserted = done.inserted + 1; fresh = 0; placed = done.placed + 2 ^ nom; rebuilds = done.rebuilds + 1 })
  rebuilt_ticked full whole =
      let e : leb (count + 1) (threshold lg nom) ≡ false = grind (arith, nat_tests) in
      let f : leb lg nom ≡ false = grind (arith, nat_tests) in
      record { size = rw (e, f) refl; retained = rw (e, f) refl; counts = rw (e, f) refl }

  -- and it keeps the law
  pub counted_ticked : HasSize lg nom grow count → (nom < 3 → count + 1 < 2 ^ lg) → CountsAgree lg nom count done → CountsAgree (size_after lg nom grow count) nom (count_after lg nom count) (ticked lg nom count done)
  counted_ticked sized room is =
      elim (cases_lt (threshold lg nom) (count + 1)) [
        | inr limited ↦ let t = few_ticked limited in rw (t.size, t.retained, t.counts) (counted_more lg nom count done is)
        | inl more ↦ elim (cases_lt nom lg) [
          | inr growing ↦
              let t = grown_ticked more growing in
              let g = sized.grows growing in
              let half = threshold_growing lg nom growing in
              rw (t.size, t.retained, t.counts) (counted_grown lg nom count done is (min (lg + grow) (nom + 1)) growing g.0 (omega (arith, g.1, growing)) (omega (arith, half, sized.limited)) (omega (arith, half, more)))
          | inl whole ↦
              let t = rebuilt_ticked more whole in
              let f = full lg nom grow count sized whole more room in
              rw (t.size, t.retained, t.counts) (counted_rebuilt lg nom count done is (large_enough nom f.large) (omega (arith, whole, sized.within)) f.many)
        ]
      ]
