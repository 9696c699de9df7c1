-- The sum of the sums of a sketch, by the lines whose hashes are below its theta.
use Rattle.std.proofs.Common.{◌≡◌, ◌≢◌, ℕ, ◌+◌, ◌^◌, ◌<◌, ◌≤◌, true, false, cond, eqb, ltb, List, [], ◌∷◌, map, Some, None, inl, inr, refl, sym, ap, subst, ◌∙◌, arith}
use Rattle.std.specs.Prelude.{is_some, Option}
use Rattle.std.specs.List.{AllByRecursion}
use Rattle.std.proofs.lemmas.Bool.{cases_lt}
use Rattle.std.proofs.lemmas.Bool.Decides.{nat_tests}
use Rattle.core_laws.specs.Cuts.{Retained}
use Rattle.core_laws.specs.Entries.{hash_key, is_carried}
use Rattle.core_laws.specs.Insertion.{is_screened}
use Rattle.core_laws.specs.Leaf.{kmin}
use Rattle.core_laws.specs.Maps.{IsAscending, below, entry_at}
use Rattle.core_laws.specs.declared.TheConstants.{MAX_THETA}
use Rattle.core_laws.proofs.maps.Ascending.{ascending-head, ascending-tail}
use Rattle.core_laws.proofs.maps.LookUps.{entry_at-below, entry_at_head, entry_at_past, entry_at_rest}
use Rattle.core_laws.proofs.maps.MapsOfLists.{ascending-from_map, each-from_map}
use Rattle.core_slots.specs.Entry.{tuple_of}
use Rattle.keys_lines.specs.Keys.{line_hash}
use Rattle.keys_lines.specs.declared.key.Hashing.{Hashing}
use Rattle.keys_sketches.specs.Keys.{key_set, IsAmong}
use Rattle.keys_sketches.proofs.Compacts.{compact}
use Rattle.keys_sketches.proofs.Shards.{is_found, part_of}
use Rattle.tuple_sketches.specs.declared.numbers.SummaryMode.TheVariants.{Sum}
use Rattle.totals.specs.Totals.{sum_of, total_of}
use Rattle.totals.proofs.Scaled.{exact_total}
use Rattle.keys_sums.specs.Sums.{summary_at, sum_below, sketch_of_sums}

module _ (hashing : Hashing) where
  -- ---- the sum at retained hashes, a line more

  module _ (amount : List ℕ → ℕ) where
    abbrev sum_on : List (List ℕ) → List ℕ → ℕ
    sum_on lines hashes = sum_of (map (λ h. tuple_of h (summary_at Sum hashing amount lines h)) hashes)

    sum_of_none : (hashes : List ℕ) → sum_on [] hashes ≡ 0
    sum_of_none [] = refl
    sum_of_none (h ∷ hashes) = omega (arith, sum_of_none hashes)

    -- what a line adds there
    abbrev adds_on : List ℕ → List ℕ → ℕ
    adds_on line hashes = cond (is_some (entry_at hash_key hashes (line_hash hashing line))) (amount line) 0

    sum_of_more : (line : List ℕ) (lines : List (List ℕ)) (hashes : List ℕ) → IsAscending hash_key hashes → sum_on (line ∷ lines) hashes ≡ adds_on line hashes + sum_on lines hashes
    sum_of_more line lines [] up = refl
    sum_of_more line lines (h ∷ hashes) up =
        let q : ℕ = line_hash hashing line in
        let later : sum_on (line ∷ lines) hashes ≡ adds_on line hashes + sum_on lines hashes = sum_of_more line lines hashes (ascending-tail hash_key h hashes up) in
        (elim (eqb q h) as (λ b. eqb q h ≡ b → cond b (amount line + summary_at Sum hashing amount lines h) (summary_at Sum hashing amount lines h) + sum_on (line ∷ lines) hashes ≡ adds_on line (h ∷ hashes) + (summary_at Sum hashing amount lines h + sum_on lines hashes)) [
          | true ↦ λ e.
              let same : h ≡ q = grind (arith, nat_tests) in
              let here : adds_on line (h ∷ hashes) ≡ amount line = ap (λ (o : Option ℕ). cond (is_some o) (amount line) 0) (entry_at_head hash_key h hashes q same) in
              let absent : entry_at hash_key hashes q ≡ None = subst (λ (p : ℕ). entry_at hash_key hashes p ≡ None) same (entry_at_past hash_key hashes h (ascending-head hash_key h hashes up)) in
              let none : adds_on line hashes ≡ 0 = ap (λ (o : Option ℕ). cond (is_some o) (amount line) 0) absent in
              omega (arith, later, here, none)
          | false ↦ λ e.
              let differs : h ≢ q = grind (arith, nat_tests) in
              let rest : adds_on line (h ∷ hashes) ≡ adds_on line hashes = ap (λ (o : Option ℕ). cond (is_some o) (amount line) 0) (entry_at_rest hash_key h hashes q differs) in
              omega (arith, later, rest)
        ]) refl

    -- ---- the retained hashes are those of the lines that aren't screened

    module _ (lines : List (List ℕ)) (hashes : List ℕ) (theta : ℕ) (all_below : hashes ≡ below hash_key (key_set hashing lines) theta) (nonzero : AllByRecursion (λ (h : ℕ). 0 < h) hashes) (high : theta ≤ MAX_THETA) where
      looked_up : (q : ℕ) → entry_at hash_key hashes q ≡ cond (ltb q theta) (entry_at hash_key (key_set hashing lines) q) None
      looked_up q = ap (λ (hs : List ℕ). entry_at hash_key hs q) all_below ∙ entry_at-below hash_key (key_set hashing lines) theta q

      not_screened : (line : List ℕ) → IsAmong line lines → adds_on line hashes ≡ cond (is_screened (line_hash hashing line) theta) 0 (amount line)
      not_screened line among =
          let q : ℕ = line_hash hashing line in
          elim (cases_lt 0 q) [
            | inr le ↦
                let zero_hash : q ≡ 0 = omega (arith, le) in
                let absent : entry_at hash_key hashes q ≡ None = ap (entry_at hash_key hashes) zero_hash ∙ entry_at_past hash_key hashes 0 nonzero in
                let screened : is_screened q theta ≡ true = grind (arith, nat_tests) in
                ap (λ (o : Option ℕ). cond (is_some o) (amount line) 0) absent ∙ sym (ap (λ b. cond b 0 (amount line)) screened)
            | inl some ↦ elim (cases_lt q theta) [
              | inl lt ↦
                  let carried : is_carried q ≡ true = grind (arith, nat_tests) in
                  let is_below : ltb q theta ≡ true = grind (arith, nat_tests) in
                  let there : entry_at hash_key hashes q ≡ Some q = looked_up q ∙ ap (λ b. cond b (entry_at hash_key (key_set hashing lines) q) None) is_below ∙ is_found hashing lines line among carried in
                  let kept : is_screened q theta ≡ false = grind (arith, nat_tests) in
                  ap (λ (o : Option ℕ). cond (is_some o) (amount line) 0) there ∙ sym (ap (λ b. cond b 0 (amount line)) kept)
              | inr le ↦
                  let not_below : ltb q theta ≡ false = grind (arith, nat_tests) in
                  let absent : entry_at hash_key hashes q ≡ None = looked_up q ∙ ap (λ b. cond b (entry_at hash_key (key_set hashing lines) q) None) not_below in
                  let screened : is_screened q theta ≡ true = grind (arith, nat_tests) in
                  ap (λ (o : Option ℕ). cond (is_some o) (amount line) 0) absent ∙ sym (ap (λ b. cond b 0 (amount line)) screened)
            ]
          ]

      sum_of_some : (some : List (List ℕ)) → IsAscending hash_key hashes → ((line : List ℕ) → IsAmong line some → IsAmong line lines) → sum_on some hashes ≡ sum_below hashing amount theta some
      sum_of_some [] up within = sum_of_none hashes
      sum_of_some (line ∷ some) up within =
          omega (arith, sum_of_more line some hashes up, not_screened line (within line (inl refl)), sum_of_some some up (λ other among. within other (inr among)))

    -- the sum of the sums of a sketch of lines
    pub sums_below : (lg_k : ℕ) (lines : List (List ℕ)) → lg_k ≤ 26 → sum_of (sketch_of_sums Sum hashing amount lg_k lines).entries ≡ sum_below hashing amount (sketch_of_sums Sum hashing amount lg_k lines).theta lines
    sums_below lg_k [] small = refl
    sums_below lg_k (line ∷ lines) small =
        let shown = (compact hashing lg_k (line ∷ lines) small).shown in
        let kept : Retained ℕ = kmin (2 ^ lg_k) (key_set hashing (line ∷ lines)) MAX_THETA in
        sum_of_some (line ∷ lines) kept.entries kept.theta (part_of hashing lg_k (line ∷ lines)).sample.all_below
        (each-from_map hash_key (λ (h : ℕ). 0 < h) kept.entries shown.nonzero) shown.theta_high (line ∷ lines) (ascending-from_map hash_key kept.entries (shown.ascending refl)) (λ other among. among)

    -- an exact total
    pub exact_below : (lg_k : ℕ) (lines : List (List ℕ)) → lg_k ≤ 26 → (total_of (sketch_of_sums Sum hashing amount lg_k lines)).exact ≡ true →
        (total_of (sketch_of_sums Sum hashing amount lg_k lines)).total ≡ sum_below hashing amount MAX_THETA lines
    exact_below lg_k lines small exact =
        let s = sketch_of_sums Sum hashing amount lg_k lines in
        let both = exact_total s exact in
        both.1 ∙ sums_below lg_k lines small ∙ ap (λ (t : ℕ). sum_below hashing amount t lines) both.0
