-- Tables in slots, from one to the next.
use Rattle.std.proofs.Common.{◌≡◌, ℕ, zero, suc, ◌+◌, ◌^◌, ◌<◌, ◌≤◌, Bool, true, false, leb, ltb, IsTrue, not, eqb, List, [], ◌∷◌, length, set, Option, Some, None, inl, inr, refl, sym, ap, ◌∙◌, subst, arith}
use Rattle.std.specs.Prelude.{◌&&◌, ◌||◌, is_some, is_none}
use Rattle.std.proofs.lemmas.Bool.{cases_lt}
use Rattle.std.proofs.lemmas.Bool.Decides.{nat_tests}
use Rattle.std.proofs.Math.Pow.{pow_mono}
use Rattle.std.proofs.lemmas.Nat.{pow_pos}
use Rattle.core_laws.specs.Maps.{IsApart, entry_at, with_entry, map_of}
use Rattle.core_laws.specs.Cuts.{cut}
use Rattle.core_slots.specs.SlotLayout.{filled, slot, is_other, IsOnPath, IsLaidOut}
use Rattle.core_laws.specs.declared.TheConstants.{MAX_THETA, MIN_LG_K, MIN_LG_SLOTS}
use Rattle.core_laws.specs.Maps.{IsListing}
use Rattle.core_table.specs.HashTable.{IsMadeWith, IsSized, IsSeedHash, MapTable, IsSlotted, HasSize, may_insert, slots_of_operator, sub_multiple}
use Rattle.core_laws.specs.Cuts.{IsRetained}
use Rattle.core_laws.specs.Insertion.{is_screened}
use Rattle.core_laws.proofs.maps.Ascending.{ascending-nil}
use Rattle.core_laws.proofs.cuts.Cuts.{cut_few, rank_all, below_all}
use Rattle.core_slots.proofs.SlotLayouts.{laid_out_empty, length-map_of, put_joins, laid_out_put}
use Rattle.core_table.proofs.OtherOrders.{map_of-moved}
use Rattle.core_slots.proofs.Ranks.{apart-laid_out}
use Rattle.core_table.proofs.Tables.{threshold_most, least_slots}

-- the entry of a slot that was reported as taken, and none of one reported as free
pub taken_is : {X : Type 0} (o : Option X) (is_free : Bool) → is_free ≡ is_none o → not is_free ≡ true → (x : X) × (o ≡ Some x)
taken_is None is_free e is = absurd (cc)
taken_is (Some x) is_free e is = (x, refl)

pub free_is : {X : Type 0} (o : Option X) (is_free : Bool) → is_free ≡ is_none o → not is_free ≡ false → o ≡ None
free_is None is_free e is = refl
free_is (Some x) is_free e is = absurd (cc)

pub none_is : {X : Type 0} (o : Option X) → o ≡ None → is_some o ≡ false
none_is None e = refl
none_is (Some x) e = absurd (cc)

needs : (a b c d e : Bool) → a ≡ false → b ≡ false → c ≡ false → (a || (b || (c || (d && e)))) ≡ true → (d ≡ true) × (e ≡ true)
needs true b c d e x y z t = absurd (cc)
needs false true c d e x y z t = absurd (cc)
needs false false true d e x y z t = absurd (cc)
needs false false false false e x y z t = absurd (cc)
needs false false false true false x y z t = absurd (cc)
needs false false false true true x y z t = (refl, refl)

not_true : (b : Bool) → not b ≡ true → b ≡ false
not_true true e = absurd (cc)
not_true false e = refl

not_false : (b : Bool) → not b ≡ false → b ≡ true
not_false true e = refl
not_false false e = absurd (cc)

module _ {X : Type 0} (key : X → ℕ) where
  -- if a hash that isn't screened may be inserted and no entry has it, there is room
  pub must_fit : (t : MapTable X) (lg grow count h : ℕ) (slots : List (Option X)) → IsSlotted key t lg grow count slots → t.kept.entries ≡ map_of key (filled slots) → t.has_slots ≡ true → is_screened h t.kept.theta ≡ false → entry_at key t.kept.entries h ≡ None → IsTrue (may_insert key h t)
      → t.lg_nom < 3 → count + 1 < 2 ^ lg
  must_fit t lg grow count h slots is same has passes none may small =
      let low : leb 3 t.lg_nom ≡ false = grind (arith, nat_tests) in
      let fits = (needs (is_screened h t.kept.theta) (is_some (entry_at key t.kept.entries h)) (leb 3 t.lg_nom) t.has_slots (ltb (length t.kept.entries + 1) (2 ^ (t.lg_nom + 1))) passes (none_is (entry_at key t.kept.entries h) none) low may).1 in
      let sized = is.sized has in
      let at : lg ≡ t.lg_nom + 1 =
      elim (cases_lt t.lg_nom lg) [
        | inl full ↦ omega (arith, full, sized.within)
        | inr growing ↦ absurd (omega (arith, small, growing, (sized.grows growing).0))
      ] in
      let lt : length t.kept.entries + 1 < 2 ^ (t.lg_nom + 1) = grind (arith, nat_tests, fits) in
      let many = length-map_of key lg slots (is.laid_out has) in
      rw at (omega (arith, lt, ap length same, many, is.counted))

  -- the next table
  pub slotted_next : (t : MapTable X) (lg grow count new_lg new_count theta : ℕ) (slots after : List (Option X)) → IsSlotted key t lg grow count slots → t.has_slots ≡ true → IsRetained key (record { entries = map_of key (filled after); theta = theta })
      → IsLaidOut key new_lg after → new_count ≡ length (filled after) → HasSize new_lg t.lg_nom grow new_count → IsSlotted key (record t { kept = record { entries = map_of key (filled after); theta = theta } }) new_lg grow new_count after
  slotted_next t lg grow count new_lg new_count theta slots after is has kept laid counted sized = record {
    table = record {
      kept = kept;
      limited = λ large.
          let low : 3 ≤ t.lg_nom =
          elim (cases_lt t.lg_nom 3) [
            | inl lt ↦ let most : 2 ^ t.lg_nom ≤ 2 ^ 2 = pow_mono {i = t.lg_nom} {j = 2} (omega (arith, lt)) in absurd (omega (arith, most, large))
            | inr ge ↦ ge
          ] in
          omega (arith, length-map_of key new_lg after laid, counted, sized.limited, threshold_most new_lg t.lg_nom grow new_count sized low);
      made = is.table.made;
      without_slots = is.table.without_slots;
    };
    laid_out = λ _. laid;
    without = λ e. absurd (cc);
    counted = counted;
    sized = λ _. sized;
  }

  pub filled_over : (slots : List (Option X)) (p : ℕ) (x y : X) → slot slots p ≡ Some y → length (filled (set slots p (Some x))) ≡ length (filled slots)
  filled_over [] p x y content = absurd (cc)
  filled_over (None ∷ slots) zero x y content = absurd (cc)
  filled_over (Some z ∷ slots) zero x y content = refl
  filled_over (None ∷ slots) (suc p) x y content = filled_over slots p x y content
  filled_over (Some z ∷ slots) (suc p) x y content = ap suc (filled_over slots p x y content)

  -- a step writes the entry of a hash
  module _ (lg h p : ℕ) (x y : X) (slots : List (Option X)) (is : IsLaidOut key lg slots) (inside : p < length slots) (on : IsOnPath key lg slots h p) (ends : is_other key h (slot slots p) ≡ false) (same : key y ≡ h) where
    on_y : IsOnPath key lg slots (key y) p
    on_y = subst (λ (n : ℕ). IsOnPath key lg slots n p) (sym same) on

    ends_y : is_other key (key y) (slot slots p) ≡ false
    ends_y = subst (λ (n : ℕ). is_other key n (slot slots p) ≡ false) (sym same) ends

    pub written_joins : map_of key (filled (set slots p (Some y))) ≡ with_entry key (map_of key (filled slots)) y
    written_joins = put_joins key lg p y slots is inside on_y ends_y

    pub written_laid_out : IsLaidOut key lg (set slots p (Some y))
    written_laid_out = laid_out_put key lg slots p y is inside on_y ends_y

  pub key_found : (lg h p : ℕ) (x : X) (slots : List (Option X)) → slot slots p ≡ Some x → is_other key h (slot slots p) ≡ false → key x ≡ h
  key_found lg h p x slots present ends = let other : is_other key h (Some x) ≡ false = ap (is_other key h) (sym present) ∙ ends in grind (arith, nat_tests)

  -- there are fewer entries than a `usize` can count
  pub slotted_fits : (t : MapTable X) (lg grow count : ℕ) (slots : List (Option X)) → IsSlotted key t lg grow count slots → length (filled slots) < 2 ^ 64
  slotted_fits t lg grow count slots is =
      (elim t.has_slots as (λ b. t.has_slots ≡ b → length (filled slots) < 2 ^ 64) [
        | true ↦ λ e.
            let sized = is.sized e in
            let most : 2 ^ lg ≤ 2 ^ 33 = pow_mono {i = lg} {j = 33} (omega (arith, sized.within, sized.nom_high)) in
            omega (arith, is.counted, sized.room, most)
        | false ↦ λ e. rw (is.without e) (omega arith)
      ]) refl

  -- the count is that of the map
  pub slotted_count : (t : MapTable X) (lg grow count : ℕ) (slots : List (Option X)) → IsSlotted key t lg grow count slots → count ≡ length (map_of key (filled slots))
  slotted_count t lg grow count slots is =
      is.counted ∙
      (elim t.has_slots as (λ b. t.has_slots ≡ b → length (filled slots) ≡ length (map_of key (filled slots))) [
        | true ↦ λ e. sym (length-map_of key lg slots (is.laid_out e))
        | false ↦ λ e. rw (is.without e) refl
      ]) refl

  -- a table without entries
  pub slotted_new : (lg_nom start seed hash theta lg grow : ℕ) (slots : List (Option X)) → filled slots ≡ [] → length slots ≡ 2 ^ lg → HasSize lg lg_nom grow 0 → 0 < theta → theta ≤ MAX_THETA → IsMadeWith lg_nom start seed hash
      → IsSlotted key (record { kept = record { entries = map_of key (filled slots); theta = theta }; lg_nom = lg_nom; has_slots = true; start = start; seed = seed; seed_hash = hash }) lg grow 0 slots
  slotted_new lg_nom start seed hash theta lg grow slots none size sized low high made = record {
    table = rw none (record {
      kept = record { ascending = ascending-nil _; nonzero = tt; below_theta = tt; theta_low = low; theta_high = high };
      limited = λ _. omega arith;
      made = made;
      without_slots = λ e. absurd (cc);
    });
    laid_out = λ _. laid_out_empty key lg slots size none;
    without = λ e. absurd (cc);
    counted = rw none refl;
    sized = λ _. sized;
  }

  -- without slots there are no entries
  pub none_without : (t : MapTable X) (lg grow count : ℕ) (slots : List (Option X)) → IsSlotted key t lg grow count slots → t.has_slots ≡ false → count ≡ 0
  none_without t lg grow count slots is without = is.counted ∙ ap (λ s. length (filled s)) (is.without without)

  -- a cut of few entries keeps all of them
  pub few_stay : (k t : ℕ) (m : List X) → IsRetained key (record { entries = m; theta = t }) → length m ≤ k → cut key k m t ≡ record { entries = m; theta = t }
  few_stay k t m is limited = cut_few key k m t is.ascending (omega (arith, rank_all key m t is.below_theta, limited)) ∙ ap (λ ys. record { entries = ys; theta = t }) (below_all key m t is.below_theta)

  -- a table lists the entries in its slots
  pub slotted_sequence : (t : MapTable X) (lg grow count : ℕ) (slots : List (Option X)) → IsSlotted key t lg grow count slots → IsListing key (map_of key (filled slots)) (filled slots)
  slotted_sequence t lg grow count slots is =
      let each : IsApart key (filled slots) =
      (elim t.has_slots as (λ b. t.has_slots ≡ b → IsApart key (filled slots)) [
        | true ↦ λ e. apart-laid_out key lg slots (is.laid_out e)
        | false ↦ λ e. rw (is.without e) tt
      ]) refl in
      record { each_once = map_of-moved key (filled slots) each; apart = each; same_map = refl }

  empty_list : {Y : Type 0} (ys : List Y) → length ys ≡ 0 → ys ≡ []
  empty_list [] e = refl
  empty_list (y ∷ ys) e = absurd (omega (arith, e))

  -- a table of a sketch has slots, and no fewer than it began with
  pub at_least_starting : (t : MapTable X) (lg grow count : ℕ) (slots : List (Option X)) → IsSlotted key t lg grow count slots → MIN_LG_K ≤ t.lg_nom → (t.has_slots ≡ true) × (2 ^ sub_multiple (t.lg_nom + 1) MIN_LG_SLOTS grow ≤ length slots)
  at_least_starting t lg grow count slots is of_sketch =
      let has : t.has_slots ≡ true =
      (elim t.has_slots as (λ b. t.has_slots ≡ b → b ≡ true) [
        | true ↦ λ e. refl
        | false ↦ λ e. absurd (omega (arith, of_sketch, is.table.without_slots e))
      ]) refl in
      let most : 2 ^ sub_multiple (t.lg_nom + 1) MIN_LG_SLOTS grow ≤ 2 ^ lg = pow_mono {i = sub_multiple (t.lg_nom + 1) MIN_LG_SLOTS grow} {j = lg} ((is.sized has).starts of_sketch) in
      (has, omega (arith, most, (is.laid_out has).size))

  -- a table with another size, whose slots are all free
  pub slotted_resized : (t : MapTable X) (lg grow count new_lg theta : ℕ) (slots after : List (Option X)) → IsSlotted key t lg grow count slots → t.has_slots ≡ true → filled after ≡ [] → length after ≡ 2 ^ new_lg → HasSize new_lg t.lg_nom grow 0 → 0 < theta → theta ≤ MAX_THETA
      → IsSlotted key (record t { kept = record { entries = map_of key (filled after); theta = theta } }) new_lg grow 0 after
  slotted_resized t lg grow count new_lg theta slots after is has none size sized low high =
      slotted_next t lg grow count new_lg 0 theta slots after is has
      (rw none (record { ascending = ascending-nil _; nonzero = tt; below_theta = tt; theta_low = low; theta_high = high }))
      (laid_out_empty key new_lg after size none) (rw none refl) sized

  -- as many slots, all free
  pub slotted_cleared : (t : MapTable X) (lg grow count : ℕ) (slots after : List (Option X)) → IsSlotted key t lg grow count slots → filled after ≡ [] → length after ≡ length slots
      → IsSlotted key (record t { kept = record { entries = map_of key (filled after); theta = t.kept.theta } }) lg grow 0 after
  slotted_cleared t lg grow count slots after is none same =
      let kept : IsRetained key (record { entries = map_of key (filled after); theta = t.kept.theta }) = rw none (record { ascending = ascending-nil _; nonzero = tt; below_theta = tt; theta_low = is.table.kept.theta_low; theta_high = is.table.kept.theta_high }) in
      record {
        table = record { kept = kept; limited = λ _. rw none (omega arith); made = is.table.made; without_slots = is.table.without_slots };
        laid_out = λ has. laid_out_empty key lg after (same ∙ (is.laid_out has).size) none;
        without = λ lacks. empty_list after (same ∙ ap length (is.without lacks));
        counted = rw none refl;
        sized = λ has.
            let sized = is.sized has in
            record { limited = omega arith; room = pow_pos lg; within = sized.within; nom_high = sized.nom_high; grow_high = sized.grow_high; grows = sized.grows; starts = sized.starts };
      }

  -- the table of an operator, with nothing in it
  pub slotted_operator : (lg lg_nom theta seed hash : ℕ) (slots : List (Option X)) → IsSized lg lg_nom → lg ≤ 33 → 0 < theta → theta ≤ MAX_THETA → IsSeedHash seed hash → length slots ≡ slots_of_operator lg → filled slots ≡ []
      → IsSlotted key (record { kept = record { entries = map_of key (filled slots); theta = theta }; lg_nom = lg_nom; has_slots = not (eqb lg 0); start = MAX_THETA; seed = seed; seed_hash = hash }) lg 0 0 slots
  slotted_operator lg lg_nom theta seed hash slots sizes high low most of_seed size none =
      let nom_high : lg_nom ≤ 32 =
      elim sizes [
        | inl full ↦ omega (arith, full, high)
        | inr lacks ↦ omega (arith, lacks.1)
      ] in
      record {
        table = rw none (record {
          kept = record { ascending = ascending-nil _; nonzero = tt; below_theta = tt; theta_low = low; theta_high = most };
          limited = λ _. omega arith;
          made = record { lg_nom_high = nom_high; start_low = omega arith; start_high = omega arith; of_seed = of_seed.0; hash_low = of_seed.1 };
          without_slots = λ e. elim sizes [ inl full ↦ absurd (let has : eqb lg 0 ≡ false = grind (arith, nat_tests) in cc) | inr lacks ↦ lacks.1 ];
        });
        laid_out = λ e. let has : eqb lg 0 ≡ false = not_true (eqb lg 0) e in laid_out_empty key lg slots (rw has at size) none;
        without = λ e. let lacks : eqb lg 0 ≡ true = not_false (eqb lg 0) e in empty_list slots (rw lacks at size);
        counted = rw none refl;
        sized = λ e.
            let has : eqb lg 0 ≡ false = not_true (eqb lg 0) e in
            let at : lg ≡ lg_nom + 1 =
            elim sizes [
              | inl full ↦ full
              | inr lacks ↦ absurd (grind (arith, nat_tests, has, lacks.0))
            ] in
            record {
              limited = omega arith;
              room = pow_pos lg;
              within = omega (arith, at);
              nom_high = nom_high;
              grow_high = omega arith;
              grows = λ le. absurd (omega (arith, le, at));
              starts = λ of_sketch. omega (arith, at, least_slots lg_nom of_sketch);
            };
      }
