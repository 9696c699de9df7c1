-- Entries that are merged into two ascending lists.
use Rattle.std.proofs.Math.Pow.{pow_mono}
use Rattle.std.proofs.Common.{◌≡◌, ℕ, ◌+◌, ◌*◌, ◌/◌, ◌^◌, ◌<◌, ◌≤◌, ◌≢◌, Bool, true, false, cond, ltb, eqb, List, [], ◌∷◌, ◌++◌, length, set, get_or, Option, Some, None, IfSome, ◌⊎◌, refl, sym, ap, ◌∙◌, subst, arith}
use Rattle.std.specs.List.{insert, AllByRecursion}
use Rattle.std.specs.Option.{option_map_or}
use Rattle.std.proofs.lemmas.Bool.{ltb-true}
use Rattle.std.proofs.lemmas.Bool.Decides.{nat_tests}
use Rattle.std.proofs.lemmas.List.{append-nil, length-append, length-set}
use Rattle.std.proofs.lemmas.List.Edits.{length-insert}
use Rattle.std.proofs.lemmas.List.Elements.{filter-append}
use Rattle.core_laws.specs.Maps.{IsApart, below, entry_at, with_entry, map_of}
use Rattle.core_laws.specs.Cuts.{Retained, cut, none_below, IsRetained}
use Rattle.core_laws.specs.Entries.{KeepsKey}
use Rattle.core_laws.specs.Places.{IsAt, IsGapFor}
use Rattle.core_laws.specs.Refusal.{policy_refusal}
use Rattle.core_laws.specs.Insertion.{is_screened, rebuilt, after_upsert, upsert_refusal}
use Rattle.core_laws.specs.Step.{Step, merge_step}
use Rattle.core_table.specs.HashTable.{MapTable, IsTable, after_insertion, trimmed_table, cut_table}
use Rattle.core_operators.specs.Lists.{AreLists, in_lists, with_lists}
use Rattle.core_laws.proofs.maps.Ascending.{ascending-nil, each-append, each-passes, ascending-with_entry}
use Rattle.core_laws.proofs.maps.LookUps.{entry_at-append, entry_at-with_entry, entry_at_head, entry_at_rest, same_map}
use Rattle.core_laws.proofs.maps.MapsOfLists.{ascending-apart, ascending-map_of, entry_at-map_of}
use Rattle.core_laws.proofs.cuts.Cuts.{cut_few}
use Rattle.core_laws.proofs.cuts.WithinWholeMaps.{cut_below}
use Rattle.core_laws.proofs.maps.Insertions.{with_entry_at, entry_at_place, entry_at_gap, with_entry_gap}
use Rattle.core_laws.proofs.insertions.Cases.{IsRetained-with_entry, IsRetained-below, IsRetained-cut, limited-cut, rebuilt_full, rebuilt_free, screened_case, existing_case, absent_case, is_screened_true, is_screened_false}
use Rattle.core_slots.proofs.Gathers.{map_of-below, apart-below}
use Rattle.core_slots.proofs.Ranks.{length-apart}
use Rattle.core_table.proofs.OtherOrders.{map_of-ascending, each-map_of}

module _ {X : Type 0} where
  none_some : {x : X} → None ≡ Some x → ⊥
  none_some e = cc

  first_or_both : (b : Bool) (x : X) (o a : Option X) → option_map_or Some (cond b (Some x) o) a ≡ cond b (Some x) (option_map_or Some o a)
  first_or_both true x o a = refl
  first_or_both false x o a = refl

  second_or_both : (b : Bool) (x : X) (o a : Option X) → (b ≡ true → o ≡ None) → option_map_or Some o (cond b (Some x) a) ≡ cond b (Some x) (option_map_or Some o a)
  second_or_both true x o a none = rw (none refl) refl
  second_or_both false x o a none = refl

module _ {X : Type 0} (key : X → ℕ) where
  -- the key of an entry differs from those behind it
  first_differs : (x : X) (left : List X) (q : ℕ) (y : X) → entry_at key left (key x) ≡ None → entry_at key left q ≡ Some y → key x ≢ q
  first_differs x left q y none found tie = none_some (sym (subst (λ (h : ℕ). entry_at key left h ≡ None) tie none) ∙ found)

  apart-append : (xs ys : List X) → IsApart key xs → IsApart key ys → ((q : ℕ) (x : X) → entry_at key xs q ≡ Some x → entry_at key ys q ≡ None) → IsApart key (xs ++ ys)
  apart-append [] ys apart others disjoint = others
  apart-append (x ∷ xs) ys apart others disjoint = (
    entry_at-append key xs ys (key x) ∙ ap (λ o. option_map_or Some o (entry_at key ys (key x))) apart.0 ∙ disjoint (key x) x (entry_at_head key x xs (key x) refl),
    apart-append xs ys apart.1 others (λ q y found. disjoint q y (entry_at_rest key x xs q (first_differs x xs q y apart.0 found) ∙ found)),
  )

  module _ (held added : List X) (y : X) where
    -- an entry put into the first of two lists
    pub map-held : map_of key (with_entry key held y ++ added) ≡ with_entry key (map_of key (held ++ added)) y
    map-held =
        same_map key _ _ (ascending-map_of key (with_entry key held y ++ added)) (ascending-with_entry key (map_of key (held ++ added)) y (ascending-map_of key (held ++ added))) (λ q.
        entry_at-map_of key (with_entry key held y ++ added) q ∙ entry_at-append key (with_entry key held y) added q
        ∙ ap (λ o. option_map_or Some o (entry_at key added q)) (entry_at-with_entry key held y q)
        ∙ first_or_both (eqb (key y) q) y (entry_at key held q) (entry_at key added q)
        ∙ ap (λ o. cond (eqb (key y) q) (Some y) o) (sym (entry_at-append key held added q) ∙ sym (entry_at-map_of key (held ++ added) q))
        ∙ sym (entry_at-with_entry key (map_of key (held ++ added)) y q))

    -- an entry put into the second, if none of the first has its key
    pub map-added : entry_at key held (key y) ≡ None → map_of key (held ++ with_entry key added y) ≡ with_entry key (map_of key (held ++ added)) y
    map-added none =
        same_map key _ _ (ascending-map_of key (held ++ with_entry key added y)) (ascending-with_entry key (map_of key (held ++ added)) y (ascending-map_of key (held ++ added))) (λ q.
        let absent : eqb (key y) q ≡ true → entry_at key held q ≡ None = λ e. let same : key y ≡ q = grind (arith, nat_tests) in subst (λ (h : ℕ). entry_at key held h ≡ None) same none in
        entry_at-map_of key (held ++ with_entry key added y) q ∙ entry_at-append key held (with_entry key added y) q
        ∙ ap (λ o. option_map_or Some (entry_at key held q) o) (entry_at-with_entry key added y q)
        ∙ second_or_both (eqb (key y) q) y (entry_at key held q) (entry_at key added q) absent
        ∙ ap (λ o. cond (eqb (key y) q) (Some y) o) (sym (entry_at-append key held added q) ∙ sym (entry_at-map_of key (held ++ added) q))
        ∙ sym (entry_at-with_entry key (map_of key (held ++ added)) y q))

  no_entries : (theta : ℕ) (held : List X) → IsRetained key (record { entries = held; theta = theta }) → IsRetained key (record { entries = []; theta = theta })
  no_entries theta held sound = record { ascending = ascending-nil key; nonzero = tt; below_theta = tt; theta_low = sound.theta_low; theta_high = sound.theta_high }

  module _ (t : MapTable X) (held added : List X) (are : AreLists key t held added) where
    pub both_apart : IsApart key (held ++ added)
    both_apart = apart-append held added (ascending-apart key held are.held_sound.ascending) (ascending-apart key added are.added_sound.ascending) are.apart

    pub count_both : length (map_of key (held ++ added)) ≡ length held + length added
    count_both = length-apart key (held ++ added) both_apart ∙ length-append held added

    -- their map is that of a table
    pub map_sound : IsRetained key (in_lists key held added t.kept.theta)
    map_sound = record {
      ascending = ascending-map_of key (held ++ added);
      nonzero = each-map_of key _ (held ++ added) (each-append _ held added are.held_sound.nonzero are.added_sound.nonzero);
      below_theta = each-map_of key _ (held ++ added) (each-append _ held added are.held_sound.below_theta are.added_sound.below_theta);
      theta_low = are.held_sound.theta_low;
      theta_high = are.held_sound.theta_high;
    }

    pub table_sound : IsTable key t → IsTable key (with_lists key held added t)
    table_sound table = record {
      kept = map_sound;
      limited = λ _. omega (arith, count_both, are.limited);
      made = table.made;
      without_slots = table.without_slots;
    }

    module _ (y : X) (positive : 0 < key y) (low : key y < t.kept.theta) where
      -- an entry is put into the first, in place of one
      pub lists-held : (w : X) → entry_at key held (key y) ≡ Some w → length (with_entry key held y) ≡ length held → AreLists key t (with_entry key held y) added
      lists-held w there count = record {
        nothing = are.nothing;
        large = are.large;
        held_sound = IsRetained-with_entry key held t.kept.theta y are.held_sound positive low;
        added_sound = are.added_sound;
        apart = λ q x found.
            (elim (eqb (key y) q) as (λ b. eqb (key y) q ≡ b → cond b (Some y) (entry_at key held q) ≡ Some x → entry_at key added q ≡ None) [
              | true ↦ λ e _. let same : key y ≡ q = grind (arith, nat_tests) in subst (λ (h : ℕ). entry_at key added h ≡ None) same (are.apart (key y) w there)
              | false ↦ λ _ found. are.apart q x found
            ]) refl (sym (entry_at-with_entry key held y q) ∙ found);
        limited = omega (arith, are.limited, count);
      }

      -- an entry is put into the second, if none of the first has its key
      pub lists-added : entry_at key held (key y) ≡ None → length held + length (with_entry key added y) ≤ 15 * 2 ^ t.lg_nom / 8 → AreLists key t held (with_entry key added y)
      lists-added none limited = record {
        nothing = are.nothing;
        large = are.large;
        held_sound = are.held_sound;
        added_sound = IsRetained-with_entry key added t.kept.theta y are.added_sound positive low;
        apart = λ q x found. entry_at-with_entry key added y q ∙
            (elim (eqb (key y) q) as (λ b. eqb (key y) q ≡ b → cond b (Some y) (entry_at key added q) ≡ None) [
              | true ↦ λ e. let same : key y ≡ q = grind (arith, nat_tests) in absurd (none_some (sym (subst (λ (h : ℕ). entry_at key held h ≡ None) same none) ∙ found))
              | false ↦ λ _. are.apart q x found
            ]) refl;
        limited = limited;
      }

    -- all are gathered in the first
    pub lists-gathered : AreLists key t (map_of key (held ++ added)) []
    lists-gathered = record {
      nothing = are.nothing;
      large = are.large;
      held_sound = map_sound;
      added_sound = no_entries t.kept.theta held are.held_sound;
      apart = λ q x found. refl;
      limited = omega (arith, count_both, are.limited);
    }

    pub map-gathered : map_of key (map_of key (held ++ added) ++ []) ≡ map_of key (held ++ added)
    map-gathered = ap (map_of key) (append-nil (map_of key (held ++ added))) ∙ map_of-ascending key _ (ascending-map_of key (held ++ added))

  -- the map of one list beside an empty one
  pub map-alone : (xs : List X) (theta : ℕ) → IsRetained key (record { entries = xs; theta = theta }) → map_of key (xs ++ []) ≡ xs
  map-alone xs theta sound = ap (map_of key) (append-nil xs) ∙ map_of-ascending key xs sound.ascending

-- an entry of this hash was merged, and the lists are these
pub record IsMergedInto {X : Type 0} (key : X → ℕ) (merges : X → X → X) (refuses : X → X → Bool) (t : MapTable X) (held added : List X) (hash : ℕ) (x : X) (now_held now_added : List X) : Type 0 where
  pub lists : AreLists key t now_held now_added
  pub after : with_lists key now_held now_added t ≡ after_insertion key hash (merge_step merges refuses x) (with_lists key held added t)

-- an entry is to merge into the entry w at place i
pub record IsFound {X : Type 0} (key : X → ℕ) (merges : X → X → X) (refuses : X → X → Bool) (t : MapTable X) (held added : List X) (hash : ℕ) (x w : X) (now_held now_added : X → List X) : Type 0 where
  pub refusal_is : upsert_refusal key hash (merge_step merges refuses x) (in_lists key held added t.kept.theta) ≡ policy_refusal (refuses w x)
  pub merged : (y : X) → y ≡ merges w x → IsMergedInto key merges refuses t held added hash x (now_held y) (now_added y)

-- no entry has its hash
pub record IsAbsent {X : Type 0} (key : X → ℕ) (merges : X → X → X) (refuses : X → X → Bool) (t : MapTable X) (held added : List X) (hash : ℕ) (x : X) : Type 0 where
  pub refusal_is : upsert_refusal key hash (merge_step merges refuses x) (in_lists key held added t.kept.theta) ≡ None
  pub after_is : after_upsert key (2 ^ t.lg_nom) hash (merge_step merges refuses x) (in_lists key held added t.kept.theta) ≡ rebuilt key (2 ^ t.lg_nom) (with_entry key (map_of key (held ++ added)) x) t.kept.theta

module _ {X : Type 0} (key : X → ℕ) (merges : X → X → X) (refuses : X → X → Bool) (keeps : KeepsKey key merges) (t : MapTable X) (held added : List X) (are : AreLists key t held added) (x : X) (hash : ℕ) (hash_is : hash ≡ key x) where
  abbrev step : Step X
  step = merge_step merges refuses x

  abbrev now : Retained X
  now = in_lists key held added t.kept.theta

  -- a screened entry changes nothing
  pub screened : (hash ≡ 0) ⊎ (t.kept.theta ≤ hash) → record {
    refusal_is : upsert_refusal key hash step now ≡ None;
    after : with_lists key held added t ≡ after_insertion key hash step (with_lists key held added t);
  }
  screened out =
      let case = screened_case key (2 ^ t.lg_nom) hash step now (is_screened_true hash t.kept.theta out) in
      let put : Retained X → MapTable X = λ v. record t { kept = v } in
      record { refusal_is = case.refusal_is; after = ap put (sym case.after_is) }

  module _ (positive : hash ≢ 0) (low : hash < t.kept.theta) where
    unscreened : is_screened hash t.kept.theta ≡ false
    unscreened = is_screened_false hash t.kept.theta positive low

    there_or : entry_at key (map_of key (held ++ added)) hash ≡ option_map_or Some (entry_at key held hash) (entry_at key added hash)
    there_or = entry_at-map_of key (held ++ added) hash ∙ entry_at-append key held added hash

    module _ (w : X) (there : entry_at key (map_of key (held ++ added)) hash ≡ Some w) (w_key : key w ≡ hash) where
      case_is : upsert_refusal key hash step now ≡ policy_refusal (refuses w x)
      case_is = (existing_case key (2 ^ t.lg_nom) hash step now w unscreened there).refusal_is

      same_key : (y : X) → y ≡ merges w x → key y ≡ hash
      same_key y is = ap key is ∙ keeps w x (w_key ∙ hash_is) ∙ sym hash_is

      after_merge : (y : X) (now_held now_added : List X) → y ≡ merges w x → map_of key (now_held ++ now_added) ≡ with_entry key (map_of key (held ++ added)) y → with_lists key now_held now_added t ≡ after_insertion key hash step (with_lists key held added t)
      after_merge y now_held now_added is map_is =
          let put : Retained X → MapTable X = λ v. record t { kept = v } in
          let with_it : X → Retained X = λ z. record { entries = with_entry key (map_of key (held ++ added)) z; theta = t.kept.theta } in
          ap put (ap (λ ys. record { entries = ys; theta = t.kept.theta }) map_is ∙ ap with_it is ∙ sym (existing_case key (2 ^ t.lg_nom) hash step now w unscreened there).after_is)

    module _ (i : ℕ) (w : X) where
      pub in_held : IsAt key held hash i → w ≡ get_or held i w → IsFound key merges refuses t held added hash x w (λ y. set held i y) (λ y. added)
      in_held is_at found =
          let up = are.held_sound.ascending in
          let at = entry_at_place key held hash i w up is_at in
          let there_held : entry_at key held hash ≡ Some w = at ∙ ap Some (sym found) in
          let there : entry_at key (map_of key (held ++ added)) hash ≡ Some w = there_or ∙ ap (λ o. option_map_or Some o (entry_at key added hash)) there_held in
          let w_key : key w ≡ hash = ap key found ∙ is_at.has_key w in
          let put : (y : X) → key y ≡ hash → AreLists key t (set held i y) added = λ y same.
          let is = with_entry_at key held hash i up is_at y same in
          let found_y : entry_at key held (key y) ≡ Some w = ap (λ (h : ℕ). entry_at key held h) same ∙ there_held in
          subst (λ ys. AreLists key t ys added) is (lists-held key t held added are y (omega (arith, same, positive)) (omega (arith, same, low)) w found_y (ap length is ∙ length-set held i y)) in
          record {
            refusal_is = case_is w there w_key;
            merged = λ y is. record {
              lists = put y (same_key w there w_key y is);
              after = after_merge w there w_key y (set held i y) added is (ap (λ ys. map_of key (ys ++ added)) (sym (with_entry_at key held hash i up is_at y (same_key w there w_key y is))) ∙ map-held key held added y);
            };
          }

      pub in_added : entry_at key held hash ≡ None → IsAt key added hash i → w ≡ get_or added i w → IsFound key merges refuses t held added hash x w (λ y. held) (λ y. set added i y)
      in_added none is_at found =
          let up = are.added_sound.ascending in
          let at = entry_at_place key added hash i w up is_at in
          let there : entry_at key (map_of key (held ++ added)) hash ≡ Some w = there_or ∙ ap (λ o. option_map_or Some o (entry_at key added hash)) none ∙ at ∙ ap Some (sym found) in
          let w_key : key w ≡ hash = ap key found ∙ is_at.has_key w in
          let none_at : (y : X) → key y ≡ hash → entry_at key held (key y) ≡ None = λ y same. ap (λ (h : ℕ). entry_at key held h) same ∙ none in
          let put : (y : X) → key y ≡ hash → AreLists key t held (set added i y) = λ y same.
          let is = with_entry_at key added hash i up is_at y same in
          subst (λ ys. AreLists key t held ys) is (lists-added key t held added are y (omega (arith, same, positive)) (omega (arith, same, low)) (none_at y same) (omega (arith, ap length is, length-set added i y, are.limited))) in
          record {
            refusal_is = case_is w there w_key;
            merged = λ y is. record {
              lists = put y (same_key w there w_key y is);
              after = after_merge w there w_key y held (set added i y) is (ap (λ ys. map_of key (held ++ ys)) (sym (with_entry_at key added hash i up is_at y (same_key w there w_key y is))) ∙ map-added key held added y (none_at y (same_key w there w_key y is)));
            };
          }

    pub absent : entry_at key held hash ≡ None → entry_at key added hash ≡ None → IsAbsent key merges refuses t held added hash x
    absent none none_added =
        let nowhere : entry_at key (map_of key (held ++ added)) hash ≡ None = there_or ∙ ap (λ o. option_map_or Some o (entry_at key added hash)) none ∙ none_added in
        let case = absent_case key (2 ^ t.lg_nom) hash step now unscreened nowhere in
        record { refusal_is = case.refusal_is; after_is = case.after_is }

    -- the table and the lists after it was put
    pub after_put : (y : X) (new : MapTable X) (new_held new_added : List X) → y ≡ x → new ≡ record t { kept = none_below new.kept.theta } → in_lists key new_held new_added new.kept.theta ≡ rebuilt key (2 ^ t.lg_nom) (with_entry key (map_of key (held ++ added)) y) t.kept.theta → entry_at key held hash ≡ None → entry_at key added hash ≡ None
        → with_lists key new_held new_added new ≡ after_insertion key hash step (with_lists key held added t)
    after_put y new new_held new_added same new_is put_is none none_added =
        let put : Retained X → MapTable X = λ v. record t { kept = v } in
        let settled : with_lists key new_held new_added new ≡ put (in_lists key new_held new_added new.kept.theta) = ap (λ (m : MapTable X). record m { kept = in_lists key new_held new_added new.kept.theta }) new_is in
        settled ∙ ap put (put_is ∙ ap (λ z. rebuilt key (2 ^ t.lg_nom) (with_entry key (map_of key (held ++ added)) z) t.kept.theta) same ∙ sym (absent none none_added).after_is)

-- the nominal entries of a sketch's table are at least 8
large_nominal : (lg : ℕ) → 4 ≤ lg → 8 ≤ 2 ^ lg
large_nominal lg low = let more : 2 ^ 3 ≤ 2 ^ lg = pow_mono {i = 3} {j = lg} (omega (arith, low)) in omega (arith, more)

-- a new entry was inserted, and the table and the lists are these
pub record IsPut {X : Type 0} (key : X → ℕ) (t : MapTable X) (held added : List X) (x : X) (now : MapTable X) (now_held now_added : List X) : Type 0 where
  pub lists : AreLists key now now_held now_added
  pub after : in_lists key now_held now_added now.kept.theta ≡ rebuilt key (2 ^ t.lg_nom) (with_entry key (map_of key (held ++ added)) x) t.kept.theta

module _ {X : Type 0} (key : X → ℕ) where
  -- one list alone
  pub lists-alone : (t : MapTable X) (xs : List X) → t.kept.entries ≡ [] → 4 ≤ t.lg_nom → IsRetained key (record { entries = xs; theta = t.kept.theta }) → length xs ≤ 15 * 2 ^ t.lg_nom / 8 → AreLists key t xs []
  lists-alone t xs nothing large sound limited = record {
    nothing = nothing;
    large = large;
    held_sound = sound;
    added_sound = no_entries key t.kept.theta xs sound;
    apart = λ q x found. refl;
    limited = omega (arith, limited);
  }

  -- a list alone that was cut
  pub lists-cut : (t now : MapTable X) (ys : List X) (theta : ℕ) (v : Retained X) → t.kept.entries ≡ [] → 4 ≤ t.lg_nom → record { entries = ys; theta = theta } ≡ v → IsRetained key v → length v.entries ≤ 15 * 2 ^ t.lg_nom / 8 → now ≡ record t { kept = record t.kept { theta = theta } }
      → AreLists key now ys []
  lists-cut t now ys theta v nothing large is sound limited now_is =
      let cut_sound : IsRetained key (record { entries = ys; theta = theta }) = rw is sound in
      let count : length ys ≡ length v.entries = ap (λ u. length u.entries) is in
      subst (λ (m : MapTable X). AreLists key m ys []) (sym now_is) (lists-alone (record t { kept = record t.kept { theta = theta } }) ys nothing large cut_sound (omega (arith, count, limited)))

module _ {X : Type 0} (key : X → ℕ) (t : MapTable X) (held added : List X) (are : AreLists key t held added) (x : X) (none : entry_at key held (key x) ≡ None) (at : ℕ) (gap : IsGapFor key added (key x) at) (positive : 0 < key x) (low : key x < t.kept.theta) where
  abbrev all : List X
  all = map_of key (held ++ added)

  abbrev most : ℕ
  most = 15 * 2 ^ t.lg_nom / 8

  nowhere : entry_at key all (key x) ≡ None
  nowhere = entry_at-map_of key (held ++ added) (key x) ∙ entry_at-append key held added (key x) ∙ ap (λ o. option_map_or Some o (entry_at key added (key x))) none ∙ entry_at_gap key added (key x) at gap

  pub not_there : (i : ℕ) → IsAt key all (key x) i → ⊥
  not_there i is_at = none_some (sym nowhere ∙ entry_at_place key all (key x) i x (ascending-map_of key (held ++ added)) is_at)

  -- it is put into its place among the added ones
  pub put_added : length held + length added < most → IsPut key t held added x t held (insert added at x)
  put_added room =
      let is = with_entry_gap key added (key x) at gap x refl in
      let longer : length (insert added at x) ≡ length added + 1 = length-insert added at x gap.in_range in
      let lists : AreLists key t held (with_entry key added x) = lists-added key t held added are x positive low none (omega (arith, ap length is, longer, room)) in
      let same : map_of key (held ++ with_entry key added x) ≡ with_entry key all x = map-added key held added x none in
      let few : length (with_entry key all x) ≤ most = omega (arith, ap length same, count_both key t held (with_entry key added x) lists, lists.limited) in
      record {
        lists = subst (λ ys. AreLists key t held ys) is lists;
        after = ap (λ ys. in_lists key held ys t.kept.theta) (sym is) ∙ ap (λ ys. record { entries = ys; theta = t.kept.theta }) same ∙ sym (rebuilt_free key (2 ^ t.lg_nom) (with_entry key all x) t.kept.theta few);
      }

  -- it is put into its place among all
  module _ (i : ℕ) (place : IsGapFor key all (key x) i) where
    abbrev put : List X
    put = insert all i x

    is_put : with_entry key all x ≡ put
    is_put = with_entry_gap key all (key x) i place x refl

    count : length put ≡ length held + length added + 1
    count = omega (arith, length-insert all i x place.in_range, count_both key t held added are)

    pub put_sound : IsRetained key (record { entries = put; theta = t.kept.theta })
    put_sound = subst (λ ys. IsRetained key (record { entries = ys; theta = t.kept.theta })) is_put (IsRetained-with_entry key all t.kept.theta x (map_sound key t held added are) positive low)

    pub put_held : length held + length added < most → IsPut key t held added x t put []
    put_held room = record {
      lists = lists-alone key t put are.nothing are.large put_sound (omega (arith, count, room));
      after = ap (λ ys. record { entries = ys; theta = t.kept.theta }) (map-alone key put t.kept.theta put_sound ∙ sym is_put) ∙ sym (rebuilt_free key (2 ^ t.lg_nom) (with_entry key all x) t.kept.theta (omega (arith, ap length is_put, count, room)));
    }

    -- if there were as many as there may be, all are cut
    pub cut_sound : IsRetained key (cut key (2 ^ t.lg_nom) put t.kept.theta)
    cut_sound = IsRetained-cut key (2 ^ t.lg_nom) put t.kept.theta put_sound

    pub put_cut : length held + length added ≡ most → (ys : List X) (theta : ℕ) (now : MapTable X) → record { entries = ys; theta = theta } ≡ cut key (2 ^ t.lg_nom) put t.kept.theta → now ≡ record t { kept = record t.kept { theta = theta } } → IsPut key t held added x now ys []
    put_cut full ys theta now is now_is =
        let large : 8 ≤ 2 ^ t.lg_nom = large_nominal t.lg_nom are.large in
        let sound : IsRetained key (record { entries = ys; theta = theta }) = rw is cut_sound in
        let theta_is : now.kept.theta ≡ theta = ap (λ (m : MapTable X). m.kept.theta) now_is in
        record {
          lists = lists-cut key t now ys theta (cut key (2 ^ t.lg_nom) put t.kept.theta) are.nothing are.large is cut_sound (limited-cut key (2 ^ t.lg_nom) put t.kept.theta put_sound.ascending large) now_is;
          after = ap (λ (h : ℕ). in_lists key ys [] h) theta_is ∙ ap (λ zs. record { entries = zs; theta = theta }) (map-alone key ys theta sound) ∙ is
              ∙ sym (rebuilt_full key (2 ^ t.lg_nom) put t.kept.theta large (omega (arith, count, full))) ∙ ap (λ zs. rebuilt key (2 ^ t.lg_nom) zs t.kept.theta) (sym is_put);
        }

module _ {X : Type 0} (key : X → ℕ) where
  -- clones of the entries of both below theta, in order
  pub clones-sorted : (held added clones sorted : List X) (theta : ℕ) → clones ≡ below key held theta ++ below key added theta → sorted ≡ map_of key clones → sorted ≡ below key (map_of key (held ++ added)) theta
  clones-sorted held added clones sorted theta clones_are is =
      is ∙ ap (map_of key) (clones_are ∙ sym (filter-append (λ x. ltb (key x) theta) held added)) ∙ map_of-below key (held ++ added) theta

  pub clones-apart : (held added clones : List X) (theta : ℕ) → clones ≡ below key held theta ++ below key added theta → IsApart key (held ++ added) → IsApart key clones
  clones-apart held added clones theta clones_are apart =
      rw (clones_are, ← filter-append (λ x. ltb (key x) theta) held added) (apart-below key (held ++ added) theta apart)

  pub all_below : (xs : List X) (theta : ℕ) → AllByRecursion (λ x. key x < theta) (below key xs theta)
  all_below xs theta = each-passes (λ x. key x < theta) (λ x. ltb (key x) theta) (λ x e. ltb-true (key x) theta e) xs

  -- a table whose entries are taken into lists
  pub lists-start : (t now : MapTable X) (held added : List X) → IsTable key t → 4 ≤ t.lg_nom → held ≡ t.kept.entries → added ≡ [] → now ≡ record t { kept = none_below t.kept.theta } → AreLists key now held added
  lists-start t now held added table large held_is added_is now_is =
      rw (held_is, added_is, now_is) (lists-alone key (record t { kept = none_below t.kept.theta }) t.kept.entries refl large table.kept (table.limited (large_nominal t.lg_nom large)))

  pub map-start : (t now : MapTable X) (held added : List X) → IsTable key t → held ≡ t.kept.entries → added ≡ [] → now ≡ record t { kept = none_below t.kept.theta } → with_lists key held added now ≡ t
  map-start t now held added table held_is added_is now_is =
      let put : List X → MapTable X = λ ys. record t { kept = record { entries = ys; theta = t.kept.theta } } in
      rw (held_is, added_is, now_is) (ap put (map-alone key t.kept.entries t.kept.theta table.kept))

  -- lists whose entries are gathered and cut
  module _ (t : MapTable X) (held added : List X) (are : AreLists key t held added) (ys : List X) (theta : ℕ) (now : MapTable X)
      (is : record { entries = ys; theta = theta } ≡ cut key (2 ^ t.lg_nom) (map_of key (held ++ added)) t.kept.theta) (now_is : now ≡ record t { kept = record t.kept { theta = theta } }) where
    trimmed_sound : IsRetained key (cut key (2 ^ t.lg_nom) (map_of key (held ++ added)) t.kept.theta)
    trimmed_sound = IsRetained-cut key (2 ^ t.lg_nom) (map_of key (held ++ added)) t.kept.theta (map_sound key t held added are)

    pub lists-trimmed : AreLists key now ys []
    lists-trimmed = lists-cut key t now ys theta (cut key (2 ^ t.lg_nom) (map_of key (held ++ added)) t.kept.theta) are.nothing are.large is trimmed_sound
        (limited-cut key (2 ^ t.lg_nom) (map_of key (held ++ added)) t.kept.theta (ascending-map_of key (held ++ added)) (large_nominal t.lg_nom are.large)) now_is

    pub map-trimmed : with_lists key ys [] now ≡ trimmed_table key (with_lists key held added t)
    map-trimmed =
        let put : Retained X → MapTable X = λ v. record t { kept = v } in
        let sound : IsRetained key (record { entries = ys; theta = theta }) = rw is trimmed_sound in
        ap (λ (m : MapTable X). with_lists key ys [] m) now_is ∙ ap (λ zs. put (record { entries = zs; theta = theta })) (map-alone key ys theta sound) ∙ ap put is

-- a table, with the entries of lists in place of its own if there are lists
pub either_sound : {L X : Type 0} (key : X → ℕ) (held added : L → List X) (t : MapTable X) (lists : Option L) → IfSome lists (λ l. AreLists key t (held l) (added l)) → IsTable key t → IsTable key (option_map_or (λ l. with_lists key (held l) (added l) t) lists t)
either_sound key held added t None are table = table
either_sound key held added t (Some l) are table = table_sound key t (held l) (added l) are table

module _ {X : Type 0} (key : X → ℕ) (t : MapTable X) (held added : List X) (are : AreLists key t held added) (theta : ℕ) (low : 0 < theta) (high : theta ≤ t.kept.theta) where
  -- a cut of both lists below a theta
  pub listed-cut : (k : ℕ) → IsRetained key (cut key k (map_of key (held ++ added)) theta)
  listed-cut k =
      subst (IsRetained key) (cut_below key k (map_of key (held ++ added)) theta (ascending-map_of key (held ++ added)))
      (IsRetained-cut key k (below key (map_of key (held ++ added)) theta) theta (IsRetained-below key (map_of key (held ++ added)) t.kept.theta theta (map_sound key t held added are) low high))

  -- the table of fewer nominal entries, and clones of the cut of both lists
  module _ (lg : ℕ) (large : 4 ≤ lg) (slots now : MapTable X) (ys : List X) (lesser : ℕ) (slots_is : slots ≡ cut_table key lg theta t) (is : record { entries = ys; theta = lesser } ≡ cut key (2 ^ lg) (map_of key (held ++ added)) theta) where
    nothing_cut : cut key (2 ^ lg) t.kept.entries theta ≡ none_below theta
    nothing_cut = ap (λ xs. cut key (2 ^ lg) xs theta) are.nothing ∙ cut_few key (2 ^ lg) [] theta (ascending-nil key) (omega arith)

    pub smaller-empty : slots.kept.entries ≡ []
    smaller-empty = ap (λ (m : MapTable X). m.kept.entries) slots_is ∙ ap (λ v. v.entries) nothing_cut

    pub smaller_cut : IsRetained key (record { entries = ys; theta = lesser })
    smaller_cut = rw is (listed-cut (2 ^ lg))

    module _ (now_is : now ≡ record slots { kept = record slots.kept { theta = lesser } }) where
      pub lists-smaller : AreLists key now ys []
      lists-smaller =
          let lg_is : slots.lg_nom ≡ lg = ap (λ (m : MapTable X). m.lg_nom) slots_is in
          let limited : length (cut key (2 ^ lg) (map_of key (held ++ added)) theta).entries ≤ 15 * 2 ^ lg / 8 = limited-cut key (2 ^ lg) (map_of key (held ++ added)) theta (ascending-map_of key (held ++ added)) (large_nominal lg large) in
          lists-cut key slots now ys lesser (cut key (2 ^ lg) (map_of key (held ++ added)) theta) smaller-empty (omega (arith, lg_is, large)) is (listed-cut (2 ^ lg)) (rw lg_is limited) now_is

      pub map-smaller : with_lists key ys [] now ≡ cut_table key lg theta (with_lists key held added t)
      map-smaller =
          let put : Retained X → MapTable X = λ v. record t { kept = v; lg_nom = lg } in
          ap (λ (m : MapTable X). with_lists key ys [] m) now_is
          ∙ ap (λ (m : MapTable X). record m { kept = in_lists key ys [] lesser }) slots_is
          ∙ ap (λ zs. put (record { entries = zs; theta = lesser })) (map-alone key ys lesser smaller_cut) ∙ ap put is
