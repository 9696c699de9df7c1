-- Lawful thetas, and cuts below them.
use Rattle.std.proofs.Common.{◌≡◌, ℕ, zero, suc, ◌<◌, true, false, cond, eqb, IsSome, List, [], ◌∷◌, length, get_or, take, Some, inl, inr, refl, sym, ap, ◌∙◌, arith}
use Rattle.std.proofs.lemmas.Bool.{cases_lt}
use Rattle.std.proofs.lemmas.Bool.Decides.{nat_tests}
use Rattle.core_laws.specs.Maps.{IsAscending, rank, entry_at}
use Rattle.core_laws.specs.Cuts.{cut}
use Rattle.core_laws.specs.Lawful.{IsLawful}
use Rattle.core_laws.proofs.maps.Ascending.{parts_at, rank_parts}
use Rattle.core_laws.proofs.cuts.Cuts.{cut_more, cut_few, parts_rank, below_rank}

module _ {X : Type 0} (key : X → ℕ) where
  -- a key of the map has a place
  pub record Stands (xs : List X) (t i : ℕ) (x : X) : Type 0 where
    pub in_range : i < length xs
    pub is : get_or xs i x ≡ x
    pub has_key : key x ≡ t

  pub place_of_key : (xs : List X) (t : ℕ) → IsSome (entry_at key xs t) → (i : ℕ) × (x : X) × Stands xs t i x
  place_of_key [] t found = absurd (cc)
  place_of_key (x ∷ xs) t found =
      (elim (eqb (key x) t) as (λ b. eqb (key x) t ≡ b → IsSome (cond b (Some x) (entry_at key xs t)) → (i : ℕ) × (y : X) × Stands (x ∷ xs) t i y) [
        | true ↦ λ e _. (zero, x, record { in_range = omega arith; is = refl; has_key = grind (arith, nat_tests) })
        | false ↦ λ e later.
            let tail : (i : ℕ) × (y : X) × Stands xs t i y = place_of_key xs t later in
            (suc tail.0, tail.1, record { in_range = omega (arith, tail.2.in_range); is = tail.2.is; has_key = tail.2.has_key })
      ]) refl found

  -- the deciding law
  pub cut_lawful : (xs : List X) (k start theta : ℕ) → IsAscending key xs → IsLawful key xs k start theta → cut key k xs theta ≡ cut key k xs start
  cut_lawful xs k start theta up (inl e) = rw e refl
  cut_lawful xs k start theta up (inr low) =
      let place : (i : ℕ) × (x : X) × Stands xs theta i x = place_of_key xs theta low.is_key in
      let present : key (get_or xs place.0 place.1) ≡ theta = ap key place.2.is ∙ place.2.has_key in
      let rank_is : rank key xs theta ≡ place.0 = ap (rank key xs) (sym present) ∙ rank_parts key xs _ place.0 (parts_at key xs place.0 place.1 up place.2.in_range) in
      let above_it : place.0 < rank key xs start =
      elim (cases_lt place.0 (rank key xs start)) [ inl lt ↦ lt | inr le ↦ absurd (omega (arith, (parts_rank key xs start up).others place.0 place.1 le place.2.in_range, present, low.below_start)) ] in
      let whole : cut key k xs start ≡ record { entries = take k xs; theta = key (get_or xs k place.1) } = cut_more key k xs start place.1 up (omega (arith, low.ranked, rank_is)) in
      elim (cases_lt k (rank key xs theta)) [
        | inl lt ↦ cut_more key k xs theta place.1 up lt ∙ sym whole
        | inr le ↦
            let same : k ≡ place.0 = omega (arith, le, low.ranked, rank_is) in
            cut_few key k xs theta up le ∙ ap (λ ys. record { entries = ys; theta = theta }) (below_rank key xs theta up ∙ ap (λ n. take n xs) (rank_is ∙ sym same))
            ∙ ap (λ t. record { entries = take k xs; theta = t }) (sym present ∙ ap (λ j. key (get_or xs j place.1)) (sym same)) ∙ sym whole
      ]
