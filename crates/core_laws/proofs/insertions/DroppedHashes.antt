-- Hashes that are dropped from a list since their insertion changes nothing.
use Rattle.std.proofs.Common.{◌≡◌, ℕ, ◌*◌, ◌/◌, ◌<◌, ◌≤◌, Bool, true, false, cond, eqb, ltb, leb, length, List, [], ◌∷◌, ◌++◌, Some, None, inl, inr, refl, sym, ap, subst, ◌∙◌, filter, arith}
use Rattle.std.specs.Prelude.{IsSome, is_some, ◌&&◌}
use Rattle.std.proofs.lemmas.Bool.{cases_lt}
use Rattle.std.proofs.lemmas.Bool.Decides.{nat_tests}
use Rattle.core_laws.specs.Cuts.{Retained, retained, cut, IsRetained}
use Rattle.core_laws.specs.Entries.{hash_key, hash_step}
use Rattle.core_laws.specs.Maps.{IsAscending, entry_at, with_entry}
use Rattle.core_laws.specs.Insertion.{is_screened, rebuilt, after_upsert, after_upserts, IsRedundant, Drops}
use Rattle.core_laws.proofs.maps.Ascending.{ascending-with_entry}
use Rattle.core_laws.proofs.maps.LookUps.{entry_at-below, entry_at-with_entry, same_map}
use Rattle.core_laws.proofs.cuts.Cuts.{cut_is_below}
use Rattle.core_laws.proofs.cuts.WithinWholeMaps.{found_key, has-with_entry}
use Rattle.core_laws.proofs.insertions.Cases.{is_screened_true, cut_theta, screened_case, existing_case, absent_case, IsRetained-with_entry, IsRetained-rebuilt}

module _ {X : Type 0} (P : X → Type 0) where
  pub nothing_left_out : (xs : List X) → Drops P xs xs
  nothing_left_out [] = refl
  nothing_left_out (x ∷ xs) = inr (xs, refl, nothing_left_out xs)

  -- dropping twice
  pub left_out_again : (xs ys zs : List X) → Drops P xs ys → Drops P ys zs → Drops P xs zs
  left_out_again [] ys zs first second = subst (λ ys. Drops P ys zs) first second
  left_out_again (x ∷ xs) ys zs (inl (out, first)) second = inl (out, left_out_again xs ys zs first second)
  left_out_again (x ∷ xs) ys zs (inr (left, is, first)) second =
      elim (subst (λ ys. Drops P ys zs) is second) [
        | inl also ↦ inl (also.0, left_out_again xs left zs first also.1)
        | inr kept ↦ inr (kept.0, kept.1, left_out_again xs left kept.0 first kept.2)
      ]

  -- those that fail a test
  pub left_out-filter : (test : X → Bool) → ((x : X) → test x ≡ false → P x) → (xs : List X) → Drops P xs (filter test xs)
  left_out-filter test out [] = refl
  left_out-filter test out (x ∷ xs) =
      (elim (test x) as (λ b. test x ≡ b → Drops P (x ∷ xs) (cond b (x ∷ filter test xs) (filter test xs))) [
        | true ↦ λ e. inr (filter test xs, refl, left_out-filter test out xs)
        | false ↦ λ e. inl (out x e, left_out-filter test out xs)
      ]) refl

  -- the elements before one that is kept are kept from those before it in the whole list
  pub left_out-front : (xs front : List X) (y : X) (rest : List X) → Drops P xs (front ++ y ∷ rest) → (part : List X) × (behind : List X) × (xs ≡ part ++ y ∷ behind) × Drops P part front
  left_out-front [] [] y rest leaves = absurd (cc)
  left_out-front [] (z ∷ front) y rest leaves = absurd (cc)
  left_out-front (x ∷ xs) front y rest (inl (out, leaves)) =
      let part = left_out-front xs front y rest leaves in
      (x ∷ part.0, part.1, ap (λ zs. x ∷ zs) part.2, inl (out, part.3))
  left_out-front (x ∷ xs) [] y rest (inr (left, is, leaves)) =
      let head : x ≡ y = cc in
      ([], xs, ap (λ z. z ∷ xs) head, refl)
  left_out-front (x ∷ xs) (z ∷ front) y rest (inr (left, is, leaves)) =
      let same : front ++ y ∷ rest ≡ left = cc in
      let head : z ≡ x = cc in
      let part = left_out-front xs front y rest (subst (λ zs. Drops P xs zs) (sym same) leaves) in
      (x ∷ part.0, part.1, ap (λ zs. x ∷ zs) part.2, inr (front, ap (λ w. w ∷ front) head, part.3))

pub left_out-weaker : {X : Type 0} (P Q : X → Type 0) → ((x : X) → P x → Q x) → (xs ys : List X) → Drops P xs ys → Drops Q xs ys
left_out-weaker P Q weaker [] ys leaves = leaves
left_out-weaker P Q weaker (x ∷ xs) ys (inl (out, leaves)) = inl (weaker x out, left_out-weaker P Q weaker xs ys leaves)
left_out-weaker P Q weaker (x ∷ xs) ys (inr (left, is, leaves)) = inr (left, is, left_out-weaker P Q weaker xs left leaves)

-- hashes that are redundant stay so
redundant_below : (xs : List ℕ) (theta t q : ℕ) → t ≤ theta → IsRedundant hash_key (record { entries = xs; theta = theta }) q → IsRedundant hash_key (retained hash_key xs t) q
redundant_below xs theta t q le (inl screened) = inl (grind (arith, nat_tests))
redundant_below xs theta t q le (inr some) =
    elim (cases_lt q t) [
      | inl lt ↦ let e : ltb q t ≡ true = grind (arith, nat_tests) in inr (rw (entry_at-below hash_key xs t q, e) some)
      | inr high ↦ inl (is_screened_true q t (inr high))
    ]

redundant_rebuilt : (k : ℕ) (xs : List ℕ) (theta q : ℕ) → IsRetained hash_key (record { entries = xs; theta = theta }) → IsRedundant hash_key (record { entries = xs; theta = theta }) q → IsRedundant hash_key (rebuilt hash_key k xs theta) q
unfolding rebuilt
redundant_rebuilt k xs theta q v redundant =
    elim (leb 8 k && ltb (15 * k / 8) (length xs)) as (λ b. IsRedundant hash_key (cond b (cut hash_key k xs theta) (record { entries = xs; theta = theta })) q) [
      | true ↦ rw (cut_is_below hash_key k xs theta) (redundant_below xs theta (cut hash_key k xs theta).theta q (cut_theta hash_key k xs theta v).high redundant)
      | false ↦ redundant
    ]

redundant_with : (xs : List ℕ) (theta x q : ℕ) → IsRedundant hash_key (record { entries = xs; theta = theta }) q → IsRedundant hash_key (record { entries = with_entry hash_key xs x; theta = theta }) q
redundant_with xs theta x q (inl screened) = inl screened
redundant_with xs theta x q (inr some) = inr (has-with_entry hash_key xs x q some)

-- an existing entry, inserted again
same_with : (xs : List ℕ) (x : ℕ) → IsAscending hash_key xs → entry_at hash_key xs x ≡ Some x → with_entry hash_key xs x ≡ xs
same_with xs x up present =
    same_map hash_key (with_entry hash_key xs x) xs (ascending-with_entry hash_key xs x up) up
    (λ q. entry_at-with_entry hash_key xs x q
    ∙ (elim (eqb x q) as (λ b. eqb x q ≡ b → cond b (Some x) (entry_at hash_key xs q) ≡ entry_at hash_key xs q) [
      | true ↦ λ e. let same : x ≡ q = grind (arith, nat_tests) in sym (subst (λ (u : ℕ). entry_at hash_key xs u ≡ Some x) same present)
      | false ↦ λ e. refl
    ]) refl)

pub after_upserts-append : (k : ℕ) (xs ys : List ℕ) (v : Retained ℕ) → after_upserts hash_key k hash_step (xs ++ ys) v ≡ after_upserts hash_key k hash_step ys (after_upserts hash_key k hash_step xs v)
after_upserts-append k [] ys v = refl
after_upserts-append k (x ∷ xs) ys v = after_upserts-append k xs ys _

module _ (k : ℕ) where
  existing_stays : (v : Retained ℕ) (h x : ℕ) → IsRetained hash_key v → is_screened h v.theta ≡ false → entry_at hash_key v.entries h ≡ Some x → after_upsert hash_key k h (hash_step h) v ≡ v
  existing_stays v h x is passes there =
      let same : x ≡ h = found_key hash_key v.entries h x there in
      let present : entry_at hash_key v.entries x ≡ Some x = rw same (there ∙ ap Some same) in
      (existing_case hash_key k h (hash_step h) v x passes there).after_is ∙ ap (λ xs. record { entries = xs; theta = v.theta }) (same_with v.entries x is.ascending present)

  -- an insertion of a hash that is redundant changes nothing
  redundant_stays : (v : Retained ℕ) (h : ℕ) → IsRetained hash_key v → IsRedundant hash_key v h → after_upsert hash_key k h (hash_step h) v ≡ v
  redundant_stays v h is (inl screened) = (screened_case hash_key k h (hash_step h) v screened).after_is
  redundant_stays v h is (inr some) =
      (elim (is_screened h v.theta) as (λ b. is_screened h v.theta ≡ b → after_upsert hash_key k h (hash_step h) v ≡ v) [
        | true ↦ λ e. (screened_case hash_key k h (hash_step h) v e).after_is
        | false ↦ λ e.
            (elim (entry_at hash_key v.entries h) as (λ o. entry_at hash_key v.entries h ≡ o → IsSome o → after_upsert hash_key k h (hash_step h) v ≡ v) [
              | Some x ↦ λ there s. existing_stays v h x is e there
              | None ↦ λ there s. absurd (cc)
            ]) refl some
      ]) refl

  -- the retained hashes after an insertion of a hash
  record IsLeft (v : Retained ℕ) (h : ℕ) (after : Retained ℕ) : Type 0 where
    pub retained : IsRetained hash_key after
    pub redundant : (q : ℕ) → IsRedundant hash_key v q → IsRedundant hash_key after q
    pub inserted : IsRedundant hash_key after h

  left_after : (v : Retained ℕ) (h : ℕ) → IsRetained hash_key v → IsLeft v h (after_upsert hash_key k h (hash_step h) v)
  left_after v h is =
      let same : IsRedundant hash_key v h → IsLeft v h v = λ present. record { retained = is; redundant = λ q redundant. redundant; inserted = present } in
      (elim (is_screened h v.theta) as (λ b. is_screened h v.theta ≡ b → IsLeft v h (after_upsert hash_key k h (hash_step h) v)) [
        | true ↦ λ e. rw (screened_case hash_key k h (hash_step h) v e).after_is (same (inl e))
        | false ↦ λ e.
            (elim (entry_at hash_key v.entries h) as (λ o. entry_at hash_key v.entries h ≡ o → IsLeft v h (after_upsert hash_key k h (hash_step h) v)) [
              | Some x ↦ λ there. rw (existing_stays v h x is e there) (same (inr (ap is_some there)))
              | None ↦ λ there.
                  let low : 0 < h = grind (arith, nat_tests) in
                  let high : h < v.theta = grind (arith, nat_tests) in
                  let more = IsRetained-with_entry hash_key v.entries v.theta h is low high in
                  let hit : eqb h h ≡ true = grind (arith, nat_tests) in
                  let present : IsSome (entry_at hash_key (with_entry hash_key v.entries h) h) = rw (entry_at-with_entry hash_key v.entries h h, hit) refl in
                  rw (absent_case hash_key k h (hash_step h) v e there).after_is
                  (record {
                    retained = IsRetained-rebuilt hash_key k (with_entry hash_key v.entries h) v.theta more;
                    redundant = λ q redundant. redundant_rebuilt k (with_entry hash_key v.entries h) v.theta q more (redundant_with v.entries v.theta h q redundant);
                    inserted = redundant_rebuilt k (with_entry hash_key v.entries h) v.theta h more (inr present);
                  })
            ]) refl
      ]) refl

  -- redundant hashes may be dropped
  pub redundant_left_out : (xs ys : List ℕ) (v w : Retained ℕ) → IsRetained hash_key w → ((h : ℕ) → IsRedundant hash_key v h → IsRedundant hash_key w h) → Drops (IsRedundant hash_key v) xs ys → after_upserts hash_key k hash_step xs w ≡ after_upserts hash_key k hash_step ys w
  redundant_left_out [] ys v w is all leaves = ap (λ zs. after_upserts hash_key k hash_step zs w) (sym leaves)
  redundant_left_out (x ∷ xs) ys v w is all (inl (out, leaves)) =
      ap (after_upserts hash_key k hash_step xs) (redundant_stays w x is (all x out)) ∙ redundant_left_out xs ys v w is all leaves
  redundant_left_out (x ∷ xs) ys v w is all (inr (left, same, leaves)) =
      let after = left_after w x is in
      redundant_left_out xs left v (after_upsert hash_key k x (hash_step x) w) after.retained (λ h p. after.redundant h (all h p)) leaves
      ∙ ap (λ zs. after_upserts hash_key k hash_step zs w) (sym same)

  -- the retained map stays lawful
  pub retained_upserts : (xs : List ℕ) (v : Retained ℕ) → IsRetained hash_key v → IsRetained hash_key (after_upserts hash_key k hash_step xs v)
  retained_upserts [] v is = is
  retained_upserts (x ∷ xs) v is = retained_upserts xs (after_upsert hash_key k x (hash_step x) v) (left_after v x is).retained

  -- hashes that were inserted are redundant
  redundant_upserts : (xs : List ℕ) (v : Retained ℕ) (q : ℕ) → IsRetained hash_key v → IsRedundant hash_key v q → IsRedundant hash_key (after_upserts hash_key k hash_step xs v) q
  redundant_upserts [] v q is redundant = redundant
  redundant_upserts (x ∷ xs) v q is redundant =
      let after = left_after v x is in
      redundant_upserts xs (after_upsert hash_key k x (hash_step x) v) q after.retained (after.redundant q redundant)

  inserted_left_out : (xs : List ℕ) (v : Retained ℕ) → IsRetained hash_key v → Drops (IsRedundant hash_key (after_upserts hash_key k hash_step xs v)) xs []
  inserted_left_out [] v is = refl
  inserted_left_out (x ∷ xs) v is =
      let after = left_after v x is in
      let next : Retained ℕ = after_upsert hash_key k x (hash_step x) v in
      inl (redundant_upserts xs next x after.retained after.inserted, inserted_left_out xs next after.retained)

  -- so a first part of the inserted hashes may have been inserted before
  pub inserted_again : (front rest : List ℕ) (v : Retained ℕ) → IsRetained hash_key v → after_upserts hash_key k hash_step (front ++ rest) (after_upserts hash_key k hash_step front v) ≡ after_upserts hash_key k hash_step (front ++ rest) v
  inserted_again front rest v is =
      let part : Retained ℕ = after_upserts hash_key k hash_step front v in
      after_upserts-append k front rest part
      ∙ ap (after_upserts hash_key k hash_step rest) (redundant_left_out front [] part part (retained_upserts front v is) (λ h redundant. redundant) (inserted_left_out front v is))
      ∙ sym (after_upserts-append k front rest v)
