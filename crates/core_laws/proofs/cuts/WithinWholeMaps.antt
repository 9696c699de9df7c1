-- Retained maps against a whole map, which has no theta.
use Rattle.std.proofs.Common.{◌≡◌, ℕ, suc, ◌+◌, ◌*◌, ◌/◌, ◌<◌, ◌≤◌, min, Bool, true, false, cond, leb, ltb, eqb, IsSome, List, [], ◌∷◌, ◌++◌, length, get_or, take, Some, None, inl, inr, refl, sym, ap, ◌∙◌, subst, arith, length-append, append-nil}
use Rattle.std.specs.Prelude.{◌&&◌, is_some}
use Rattle.std.specs.List.{filter}
use Rattle.std.proofs.lemmas.Bool.{cases_lt}
use Rattle.std.proofs.lemmas.Bool.Decides.{nat_tests}
use Rattle.std.proofs.lemmas.List.{take-take, get_or-take, get_or_default}
use Rattle.std.proofs.lemmas.List.Elements.{filter-append}
use Rattle.core_laws.specs.Step.{Step}
use Rattle.core_laws.specs.Maps.{IsAscending, below, above, rank, entry_at, with_entry}
use Rattle.core_laws.specs.Cuts.{Retained, retained, cut}
use Rattle.core_laws.specs.Insertion.{is_screened, rebuilt, after_upsert, whole_upsert}
use Rattle.core_laws.specs.Lawful.{IsLawful, IsWithin}
use Rattle.core_laws.proofs.maps.Ascending.{each-weaker, filter_each, ascending-head, ascending-tail, ascending-filter, ascending-with_entry}
use Rattle.core_laws.proofs.cuts.LawfulThetas.{cut_lawful}
use Rattle.core_laws.proofs.cuts.Cuts.{cut_more, cut_few, parts_rank, below_rank, cut_is_below, length-below, rank_at}
use Rattle.core_laws.proofs.insertions.Cases.{screened_case, existing_case, absent_case, is_screened_true, is_screened_false}
use Rattle.std.specs.Option.{option_map_or}
use Rattle.core_laws.proofs.maps.LookUps.{entry_at-below}
use Rattle.core_laws.proofs.maps.Insertions.{entry_at_place}

module _ {X : Type 0} where
  pub filter-filter : (p q : X → Bool) (xs : List X) → ((x : X) → p x ≡ true → q x ≡ true) → filter p (filter q xs) ≡ filter p xs
  filter-filter p q [] h = refl
  filter-filter p q (x ∷ xs) h =
      (elim (q x) as (λ b. q x ≡ b → filter p (cond b (x ∷ filter q xs) (filter q xs)) ≡ cond (p x) (x ∷ filter p xs) (filter p xs)) [
        | true ↦ λ e. ap (λ ys. cond (p x) (x ∷ ys) ys) (filter-filter p q xs h)
        | false ↦ λ e. (elim (p x) as (λ b. p x ≡ b → filter p (filter q xs) ≡ cond b (x ∷ filter p xs) (filter p xs)) [
          | true ↦ λ f. absurd (let g : q x ≡ true = h x f in cc)
          | false ↦ λ f. filter-filter p q xs h
        ]) refl
      ]) refl

  filter_comm : (p q : X → Bool) (xs : List X) → filter p (filter q xs) ≡ filter q (filter p xs)
  filter_comm p q [] = refl
  filter_comm p q (x ∷ xs) =
      let rest = filter_comm p q xs in
      (elim (q x) as (λ b. q x ≡ b → filter p (cond b (x ∷ filter q xs) (filter q xs)) ≡ filter q (cond (p x) (x ∷ filter p xs) (filter p xs))) [
        | true ↦ λ e. elim (p x) as (λ b. cond b (x ∷ filter p (filter q xs)) (filter p (filter q xs)) ≡ filter q (cond b (x ∷ filter p xs) (filter p xs))) [
          | true ↦ rw e (ap (λ ys. x ∷ ys) rest)
          | false ↦ rest
        ]
        | false ↦ λ e. elim (p x) as (λ b. filter p (filter q xs) ≡ filter q (cond b (x ∷ filter p xs) (filter p xs))) [ true ↦ rw e rest | false ↦ rest ]
      ]) refl

  filter_apart : (p q : X → Bool) (xs : List X) → ((x : X) → q x ≡ true → p x ≡ false) → filter p (filter q xs) ≡ []
  filter_apart p q [] h = refl
  filter_apart p q (x ∷ xs) h =
      (elim (q x) as (λ b. q x ≡ b → filter p (cond b (x ∷ filter q xs) (filter q xs)) ≡ []) [
        | true ↦ λ e. rw (h x e) (filter_apart p q xs h)
        | false ↦ λ e. filter_apart p q xs h
      ]) refl

module _ {X : Type 0} (key : X → ℕ) where
  pub below-below : (xs : List X) (t u : ℕ) → t ≤ u → below key (below key xs u) t ≡ below key xs t
  below-below xs t u le = filter-filter (λ x. ltb (key x) t) (λ x. ltb (key x) u) xs (λ x e. grind (arith, nat_tests))

  cut_below_with : (d : X) (k : ℕ) (xs : List X) (t : ℕ) → IsAscending key xs → cut key k (below key xs t) t ≡ cut key k xs t
  cut_below_with d k xs t up =
      let twice : below key (below key xs t) t ≡ below key xs t = below-below xs t t (omega arith) in
      let same : rank key (below key xs t) t ≡ rank key xs t = sym (length-below key (below key xs t) t) ∙ ap length twice ∙ length-below key xs t in
      let up_below : IsAscending key (below key xs t) = ascending-filter key (λ x. ltb (key x) t) xs up in
      elim (cases_lt k (rank key xs t)) [
        | inl lt ↦
            cut_more key k (below key xs t) t d up_below (omega (arith, same, lt))
            ∙ ap (λ zs. record { entries = take k zs; theta = key (get_or zs k d) }) (below_rank key xs t up)
            ∙ ap (λ zs. record { entries = zs; theta = key (get_or (take (rank key xs t) xs) k d) }) (take-take k (rank key xs t) xs (omega arith))
            ∙ ap (λ z. record { entries = take k xs; theta = key z }) (get_or-take (rank key xs t) xs k d lt)
            ∙ sym (cut_more key k xs t d up lt)
        | inr le ↦ cut_few key k (below key xs t) t up_below (omega (arith, same, le)) ∙ ap (λ zs. record { entries = zs; theta = t }) twice ∙ sym (cut_few key k xs t up le)
      ]

  -- a cut depends only on the entries below
  pub cut_below : (k : ℕ) (xs : List X) (t : ℕ) → IsAscending key xs → cut key k (below key xs t) t ≡ cut key k xs t
  cut_below k [] t up = refl
  cut_below k (y ∷ ys) t up = cut_below_with y k (y ∷ ys) t up

  has-append_left : (xs ys : List X) (t : ℕ) → IsSome (entry_at key xs t) → IsSome (entry_at key (xs ++ ys) t)
  has-append_left [] ys t has = absurd (cc)
  has-append_left (x ∷ xs) ys t has =
      (elim (eqb (key x) t) as (λ b. IsSome (cond b (Some x) (entry_at key xs t)) → IsSome (cond b (Some x) (entry_at key (xs ++ ys) t))) [ true ↦ λ _. refl | false ↦ λ h. has-append_left xs ys t h ]) has

  has-append_right : (xs ys : List X) (t : ℕ) → IsSome (entry_at key ys t) → IsSome (entry_at key (xs ++ ys) t)
  has-append_right [] ys t has = has
  has-append_right (x ∷ xs) ys t has = elim (eqb (key x) t) as (λ b. IsSome (cond b (Some x) (entry_at key (xs ++ ys) t))) [ true ↦ refl | false ↦ has-append_right xs ys t has ]

  has-filter : (p : X → Bool) (xs : List X) (t : ℕ) → ((x : X) → key x ≡ t → p x ≡ true) → IsSome (entry_at key xs t) → IsSome (entry_at key (filter p xs) t)
  has-filter p [] t passes has = has
  has-filter p (x ∷ xs) t passes has =
      (elim (eqb (key x) t) as (λ b. eqb (key x) t ≡ b → IsSome (cond b (Some x) (entry_at key xs t)) → IsSome (entry_at key (cond (p x) (x ∷ filter p xs) (filter p xs)) t)) [
        | true ↦ λ e _. rw (passes x (grind (arith, nat_tests)), e) refl
        | false ↦ λ e h. elim (p x) as (λ b. IsSome (entry_at key (cond b (x ∷ filter p xs) (filter p xs)) t)) [ true ↦ rw e (has-filter p xs t passes h) | false ↦ has-filter p xs t passes h ]
      ]) refl has

  -- one more entry has its key, and keeps the others
  has-with_entry_same : (xs : List X) (x : X) → IsSome (entry_at key (with_entry key xs x) (key x))
  has-with_entry_same xs x = has-append_right (below key xs (key x)) (x ∷ above key xs (key x)) (key x) (let e : eqb (key x) (key x) ≡ true = grind (arith, nat_tests) in rw e refl)

  pub has-with_entry : (xs : List X) (x : X) (t : ℕ) → IsSome (entry_at key xs t) → IsSome (entry_at key (with_entry key xs x) t)
  has-with_entry xs x t has =
      elim (cases_lt t (key x)) [
        | inl lt ↦ has-append_left (below key xs (key x)) (x ∷ above key xs (key x)) t (has-filter (λ y. ltb (key y) (key x)) xs t (λ y e. grind (arith, nat_tests)) has)
        | inr le ↦ elim (cases_lt (key x) t) [
          | inl gt ↦
              let later : IsSome (entry_at key (above key xs (key x)) t) = has-filter (λ y. ltb (key x) (key y)) xs t (λ y e. grind (arith, nat_tests)) has in
              has-append_right (below key xs (key x)) (x ∷ above key xs (key x)) t (elim (eqb (key x) t) as (λ b. IsSome (cond b (Some x) (entry_at key (above key xs (key x)) t))) [ true ↦ refl | false ↦ later ])
          | inr ge ↦ let e : key x ≡ t = omega arith in subst (λ (u : ℕ). IsSome (entry_at key (with_entry key xs x) u)) e (has-with_entry_same xs x)
        ]
      ]

  pub below-with_entry_high : (xs : List X) (x : X) (t : ℕ) → t ≤ key x → below key (with_entry key xs x) t ≡ below key xs t
  below-with_entry_high xs x t le =
      let fails : ltb (key x) t ≡ false = grind (arith, nat_tests) in
      let none : below key (x ∷ above key xs (key x)) t ≡ [] = rw fails (filter_apart (λ y. ltb (key y) t) (λ y. ltb (key x) (key y)) xs (λ y e. grind (arith, nat_tests))) in
      filter-append (λ y. ltb (key y) t) (below key xs (key x)) (x ∷ above key xs (key x)) ∙ ap (λ ys. below key (below key xs (key x)) t ++ ys) none ∙ append-nil _ ∙ below-below xs t (key x) le

  pub below-with_entry_low : (xs : List X) (x : X) (t : ℕ) → key x < t → below key (with_entry key xs x) t ≡ with_entry key (below key xs t) x
  below-with_entry_low xs x t lt =
      let passes : ltb (key x) t ≡ true = grind (arith, nat_tests) in
      let lower : below key (below key xs (key x)) t ≡ below key (below key xs t) (key x) = filter_comm (λ y. ltb (key y) t) (λ y. ltb (key y) (key x)) xs in
      let higher : below key (above key xs (key x)) t ≡ above key (below key xs t) (key x) = filter_comm (λ y. ltb (key y) t) (λ y. ltb (key x) (key y)) xs in
      let rest : below key (x ∷ above key xs (key x)) t ≡ x ∷ above key (below key xs t) (key x) = rw passes (ap (λ ys. x ∷ ys) higher) in
      filter-append (λ y. ltb (key y) t) (below key xs (key x)) (x ∷ above key xs (key x)) ∙ ap (λ ys. ys ++ below key (x ∷ above key xs (key x)) t) lower ∙ ap (λ ys. below key (below key xs t) (key x) ++ ys) rest

  length_split : (xs : List X) (h : ℕ) → IsAscending key xs → length xs ≤ length (below key xs h) + suc (length (above key xs h))
  length_split [] h up = omega arith
  length_split (y ∷ ys) h up =
      let rest = length_split ys h (ascending-tail key y ys up) in
      elim (cases_lt (key y) h) [
        | inl lt ↦ let p : ltb (key y) h ≡ true = grind (arith, nat_tests) in let q : ltb h (key y) ≡ false = grind (arith, nat_tests) in rw (p, q) (omega (arith, rest))
        | inr ge ↦ elim (cases_lt h (key y)) [
          | inl gt ↦ let p : ltb (key y) h ≡ false = grind (arith, nat_tests) in let q : ltb h (key y) ≡ true = grind (arith, nat_tests) in rw (p, q) (omega (arith, rest))
          | inr le ↦
              let p : ltb (key y) h ≡ false = grind (arith, nat_tests) in
              let q : ltb h (key y) ≡ false = grind (arith, nat_tests) in
              let all : above key ys h ≡ ys = filter_each (λ z. ltb h (key z)) ys (each-weaker _ _ (λ z less. grind (arith, nat_tests)) ys (ascending-head key y ys up)) in
              rw (p, q) (omega (arith, ap length all))
        ]
      ]

  pub length-with_entry : (xs : List X) (x : X) → IsAscending key xs → length xs ≤ length (with_entry key xs x)
  length-with_entry xs x up = omega (arith, length_split xs (key x) up, length-append (below key xs (key x)) (x ∷ above key xs (key x)))

  pub lawful-le : (xs : List X) (k start theta : ℕ) → IsLawful key xs k start theta → theta ≤ start
  lawful-le xs k start theta (inl e) = omega arith
  lawful-le xs k start theta (inr low) = omega (arith, low.below_start)

  pub within-cut_with : (d : X) (k start theta : ℕ) (whole : List X) → IsAscending key whole → IsLawful key whole k start theta → IsWithin key k start (cut key k whole theta) whole
  within-cut_with d k start theta whole up lawful = record {
    ascending = up;
    entries_are = ap (λ v. v.entries) (cut_is_below key k whole theta);
    lawful = elim (cases_lt k (rank key whole theta)) [
      | inl lt ↦
          let parts = parts_rank key whole theta up in
          let at : (cut key k whole theta).theta ≡ key (get_or whole k d) = ap (λ v. v.theta) (cut_more key k whole theta d up lt) in
          rw at (inr (record {
            below_start = omega (arith, parts.smaller k d lt, lawful-le whole k start theta lawful);
            is_key = ap is_some (entry_at_place key whole (key (get_or whole k d)) k d up (record { in_range = omega (arith, parts.within); has_key = λ e. ap key (get_or_default whole k e d (omega (arith, parts.within))) }));
            ranked = omega (arith, rank_at key whole k d up (omega (arith, parts.within)));
          }))
      | inr le ↦ let at : (cut key k whole theta).theta ≡ theta = ap (λ v. v.theta) (cut_few key k whole theta up le) in rw at lawful
    ];
  }

  pub within-cut : (k start theta : ℕ) (whole : List X) → IsAscending key whole → IsLawful key whole k start theta → IsWithin key k start (cut key k whole theta) whole
  within-cut k start theta [] up lawful = rw (cut_few key k [] theta up (omega arith)) (record { ascending = up; entries_are = refl; lawful = lawful })
  within-cut k start theta (y ∷ ys) up lawful = within-cut_with y k start theta (y ∷ ys) up lawful

  -- a cut of a cut to at most as many is one cut
  pub cut_of_cut : (less k : ℕ) (xs : List X) (t : ℕ) → less ≤ k → IsAscending key xs → cut key less (cut key k xs t).entries (cut key k xs t).theta ≡ cut key less xs t
  cut_of_cut less k xs t le up =
      let within : IsWithin key k t (cut key k xs t) xs = within-cut k t t xs up (inl refl) in
      let lawful : IsLawful key xs less t (cut key k xs t).theta = elim within.lawful [
        | inl e ↦ inl e
        | inr low ↦ inr (record { below_start = low.below_start; is_key = low.is_key; ranked = omega (arith, le, low.ranked) })
      ] in
      ap (λ ys. cut key less ys (cut key k xs t).theta) within.entries_are
      ∙ cut_below less xs (cut key k xs t).theta up
      ∙ cut_lawful key xs less t (cut key k xs t).theta up lawful

  -- a hash that is not below theta changes nothing below it
  within-with_entry_high : (k start : ℕ) (v : Retained X) (whole : List X) (x : X) → v.theta ≤ key x → IsWithin key k start v whole → IsWithin key k start v (with_entry key whole x)
  within-with_entry_high k start v whole x le within = record {
    ascending = ascending-with_entry key whole x within.ascending;
    entries_are = within.entries_are ∙ sym (below-with_entry_high whole x v.theta le);
    lawful = elim within.lawful [
      | inl e ↦ inl e
      | inr low ↦ inr (record {
        below_start = low.below_start;
        is_key = has-with_entry whole x v.theta low.is_key;
        ranked = omega (arith, low.ranked, sym (length-below key whole v.theta) ∙ sym (ap length (below-with_entry_high whole x v.theta le)) ∙ length-below key (with_entry key whole x) v.theta);
      })
    ];
  }

  lawful-with_entry_low : (k start theta : ℕ) (whole : List X) (x : X) → IsAscending key whole → key x < theta → IsLawful key whole k start theta → IsLawful key (with_entry key whole x) k start theta
  lawful-with_entry_low k start theta whole x up lt (inl e) = inl e
  lawful-with_entry_low k start theta whole x up lt (inr low) = inr (record {
    below_start = low.below_start;
    is_key = has-with_entry whole x theta low.is_key;
    ranked =
        let before = length-below key whole theta in
        let after : rank key (with_entry key whole x) theta ≡ length (with_entry key (below key whole theta) x) = sym (length-below key (with_entry key whole x) theta) ∙ ap length (below-with_entry_low whole x theta lt) in
        omega (arith, low.ranked, before, after, length-with_entry (below key whole theta) x (ascending-filter key (λ y. ltb (key y) theta) whole up));
  })

  -- a hash below theta is inserted on both sides
  within-with_entry_low : (k start theta : ℕ) (entries whole : List X) (x : X) → key x < theta → IsWithin key k start (record { entries = entries; theta = theta }) whole → IsWithin key k start (record { entries = with_entry key entries x; theta = theta }) (with_entry key whole x)
  within-with_entry_low k start theta entries whole x lt within = record {
    ascending = ascending-with_entry key whole x within.ascending;
    entries_are = ap (λ ys. with_entry key ys x) within.entries_are ∙ sym (below-with_entry_low whole x theta lt);
    lawful = lawful-with_entry_low k start theta whole x within.ascending lt within.lawful;
  }

  within-rebuilt : (k start theta : ℕ) (entries whole : List X) → IsWithin key k start (record { entries = entries; theta = theta }) whole → IsWithin key k start (rebuilt key k entries theta) whole
  unfolding rebuilt
  within-rebuilt k start theta entries whole within =
      elim (leb 8 k && ltb (15 * k / 8) (length entries)) as (λ b. IsWithin key k start (cond b (cut key k entries theta) (record { entries = entries; theta = theta })) whole) [
        | true ↦ rw (within.entries_are, cut_below k whole theta within.ascending) (within-cut k start theta whole within.ascending within.lawful)
        | false ↦ within
      ]

  -- the entry that is found at a key has that key
  pub found_key : (xs : List X) (h : ℕ) (x : X) → entry_at key xs h ≡ Some x → key x ≡ h
  found_key [] h x e = absurd (cc)
  found_key (y ∷ ys) h x e =
      (elim (eqb (key y) h) as (λ b. eqb (key y) h ≡ b → cond b (Some y) (entry_at key ys h) ≡ Some x → key x ≡ h) [
        | true ↦ λ f g. let same : y ≡ x = cc in let present : key y ≡ h = grind (arith, nat_tests) in rw (← same) present
        | false ↦ λ f g. found_key ys h x g
      ]) refl e

module _ {X : Type 0} (key : X → ℕ) where
  -- below theta a retained map has the same as the whole map
  pub entry_at-within : (k start : ℕ) (v : Retained X) (whole : List X) (h : ℕ) → IsWithin key k start v whole → h < v.theta → entry_at key v.entries h ≡ entry_at key whole h
  entry_at-within k start v whole h within lt =
      let e : ltb h v.theta ≡ true = grind (arith, nat_tests) in
      ap (λ ys. entry_at key ys h) within.entries_are ∙ entry_at-below key whole v.theta h ∙ ap (λ b. cond b (entry_at key whole h) None) e

  -- below a lesser start it is within the part of the whole map below that start
  pub within-below : (k start m : ℕ) (v : Retained X) (whole : List X) → m ≤ start → IsWithin key k start v whole → IsWithin key k m (retained key v.entries (min m v.theta)) (below key whole m)
  within-below k start m v whole le within = record {
    ascending = ascending-filter key (λ x. ltb (key x) m) whole within.ascending;
    entries_are = ap (λ ys. below key ys (min m v.theta)) within.entries_are ∙ below-below key whole (min m v.theta) v.theta (omega arith) ∙ sym (below-below key whole (min m v.theta) m (omega arith));
    lawful = elim (cases_lt v.theta m) [
      | inl lt ↦
          let same : min m v.theta ≡ v.theta = omega (arith, lt) in
          let e : ltb v.theta m ≡ true = grind (arith, nat_tests) in
          let rank_is : rank key (below key whole m) v.theta ≡ rank key whole v.theta = sym (length-below key (below key whole m) v.theta) ∙ ap length (below-below key whole v.theta m (omega (arith, lt))) ∙ length-below key whole v.theta in
          rw same (elim within.lawful [
            | inl start_is ↦ absurd (omega (arith, start_is, lt, le))
            | inr low ↦ inr (record { below_start = lt; is_key = rw (entry_at-below key whole m v.theta, e) low.is_key; ranked = rw rank_is low.ranked })
          ])
      | inr ge ↦ inl (omega (arith, ge))
    ];
  }

  pub within-upsert : (k start h : ℕ) (step : Step X) (v : Retained X) (whole : List X) → 0 < h → ((x : X) → key x ≡ h → key (step.writes x) ≡ h) → ((x : X) → step.makes ≡ Some x → key x ≡ h) → IsWithin key k start v whole → IsWithin key k start (after_upsert key k h step v) (whole_upsert key h step whole)
  within-upsert k start h step v whole nonzero keeps makes within =
      (elim (entry_at key whole h) as (λ o. entry_at key whole h ≡ o → IsWithin key k start (after_upsert key k h step v) (option_map_or (λ x. with_entry key whole (step.writes x)) o (option_map_or (λ x. with_entry key whole x) step.makes whole))) [
        | Some x ↦ λ e.
            let written : key (step.writes x) ≡ h = keeps x (found_key key whole h x e) in
            elim (cases_lt h v.theta) [
              | inl lt ↦
                  let s : is_screened h v.theta ≡ false = is_screened_false h v.theta (omega arith) lt in
                  rw (existing_case key k h step v x s (entry_at-within k start v whole h within lt ∙ e)).after_is (within-with_entry_low key k start v.theta v.entries whole (step.writes x) (omega (arith, written, lt)) within)
              | inr le ↦ rw (screened_case key k h step v (is_screened_true h v.theta (inr le))).after_is (within-with_entry_high key k start v whole (step.writes x) (omega (arith, written, le)) within)
            ]
        | None ↦ λ e.
            (elim step.makes as (λ m. step.makes ≡ m → IsWithin key k start (after_upsert key k h step v) (option_map_or (λ x. with_entry key whole x) m whole)) [
              | Some x ↦ λ made.
                  let new : key x ≡ h = makes x made in
                  elim (cases_lt h v.theta) [
                    | inl lt ↦
                        let s : is_screened h v.theta ≡ false = is_screened_false h v.theta (omega arith) lt in
                        rw ((absent_case key k h step v s (entry_at-within k start v whole h within lt ∙ e)).after_is, made)
                        (within-rebuilt key k start v.theta (with_entry key v.entries x) (with_entry key whole x) (within-with_entry_low key k start v.theta v.entries whole x (omega (arith, new, lt)) within))
                    | inr le ↦ rw (screened_case key k h step v (is_screened_true h v.theta (inr le))).after_is (within-with_entry_high key k start v whole x (omega (arith, new, le)) within)
                  ]
              | None ↦ λ declined.
                  elim (cases_lt h v.theta) [
                    | inl lt ↦
                        let s : is_screened h v.theta ≡ false = is_screened_false h v.theta (omega arith) lt in
                        rw ((absent_case key k h step v s (entry_at-within k start v whole h within lt ∙ e)).after_is, declined) within
                    | inr le ↦ rw (screened_case key k h step v (is_screened_true h v.theta (inr le))).after_is within
                  ]
            ]) refl
      ]) refl
