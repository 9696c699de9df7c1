-- A table that is filled with entries of distinct keys.
use Rattle.std.proofs.Common.{◌≡◌, ℕ, ◌+◌, ◌*◌, ◌/◌, ◌^◌, ◌≤◌, Bool, true, false, List, [], ◌∷◌, ◌++◌, length, map, Option, Some, inl, refl, sym, ap, ◌∙◌, arith}
use Rattle.std.proofs.lemmas.List.{map-append, append_assoc, append-nil, length-append}
use Rattle.core_laws.specs.Cuts.{Retained, IsRetained}
use Rattle.core_laws.specs.Maps.{map_of}
use Rattle.core_laws.proofs.maps.MapsOfLists.{ascending-map_of}
use Rattle.core_slots.specs.SlotLayout.{filled, IsLaidOut, entries_in}
use Rattle.core_slots.proofs.SlotLayouts.{filled-append, length-map_of}
use Rattle.core_slots.proofs.Ranks.{length-apart}
use Rattle.core_table.specs.declared.insertion.Counts.{Counts}
use Rattle.core_table.specs.Filling.{IsFill}
use Rattle.core_table.specs.HashTable.{MapTable, IsProbing, CountsAgree, HasSize, threshold}
use Rattle.core_table.proofs.OtherOrders.{each-map_of}
use Rattle.core_table.proofs.Slotted.{slotted_next}

-- a table of more than one nominal entry has slots
pub has_slots : (b : Bool) (lg : ℕ) → (b ≡ false → lg ≡ 0) → 1 ≤ lg → b ≡ true
has_slots true lg without low = refl
has_slots false lg without low = absurd (omega (arith, without refl, low))

none_left : {X : Type 0} (xs : List X) → length xs ≡ 0 → xs ≡ []
none_left [] e = refl
none_left (x ∷ xs) e = absurd (omega (arith, e))

-- ---- slots that hold one entry after another
-- one slot more holds the first of the rest
one_held : {S X : Type 0} (content : S → Option X) (slots : List S) (s : S) (x : X) → content s ≡ Some x → entries_in content (slots ++ s ∷ []) ≡ entries_in content slots ++ x ∷ []
one_held content slots s x is =
    ap filled (map-append content slots (s ∷ [])) ∙ filled-append (map content slots) (content s ∷ []) ∙ ap (λ o. filled (map content slots) ++ filled (o ∷ [])) is

pub still_all : {S X : Type 0} (content : S → Option X) (slots : List S) (s : S) (x : X) (rest all : List X) → content s ≡ Some x → entries_in content slots ++ x ∷ rest ≡ all → entries_in content (slots ++ s ∷ []) ++ rest ≡ all
still_all content slots s x rest all is so_far = ap (λ xs. xs ++ rest) (one_held content slots s x is) ∙ append_assoc (entries_in content slots) (x ∷ []) rest ∙ so_far

pub one_counted : {S X : Type 0} (content : S → Option X) (slots : List S) (s : S) (x : X) → content s ≡ Some x → length (entries_in content (slots ++ s ∷ [])) ≡ length (entries_in content slots) + 1
one_counted content slots s x is = ap length (one_held content slots s x is) ∙ length-append (entries_in content slots) (x ∷ [])

pub all_held : {X : Type 0} (xs rest all : List X) → length rest ≡ 0 → xs ++ rest ≡ all → xs ≡ all
all_held xs rest all none so_far = sym (append-nil xs) ∙ ap (λ ys. xs ++ ys) (sym (none_left rest none)) ∙ so_far

-- and counts it
pub one_ticked : (first done : Counts) (m n inserted fresh : ℕ) → done ≡ record first { inserted = first.inserted + m; fresh = first.fresh + m } → n ≡ m + 1 → inserted ≡ done.inserted + 1 → fresh ≡ done.fresh + 1
    → record done { inserted = inserted; fresh = fresh } ≡ record first { inserted = first.inserted + n; fresh = first.fresh + n }
one_ticked first done m n inserted fresh so_far more one also =
    let a : inserted ≡ first.inserted + n = omega (arith, one, more, ap (λ (d : Counts). d.inserted) so_far) in
    let b : fresh ≡ first.fresh + n = omega (arith, also, more, ap (λ (d : Counts). d.fresh) so_far) in
    λ i. record (so_far i) { inserted = a i; fresh = b i }

-- ---- the table with these slots
-- counts that begin anew with n entries
pub counted_anew : (lg nom n : ℕ) (done : Counts) → done.inserted ≡ n → done.fresh ≡ n → done.placed ≡ 0 → done.rebuilds ≡ 0 → CountsAgree lg nom n done
counted_anew lg nom n done inserted fresh placed rebuilds = record {
  fresh = omega (arith, fresh);
  rare = rw rebuilds (omega (arith, inserted, fresh));
  few_placed = λ _. inl (fresh ∙ sym inserted, (omega (arith, inserted), (omega (arith, placed), omega (arith, placed))));
}

module _ {X : Type 0} (key : X → ℕ) (t : MapTable X) (lg grow most count : ℕ) (slots : List (Option X)) (done : Counts) (is : IsProbing key t lg grow most count slots done) (large : 3 ≤ t.lg_nom) where
  -- slots with entries of distinct keys in place of those of a table
  pub filled_probing : (new_lg new_most n : ℕ) (after : List (Option X)) (xs : List X) (anew : Counts) → IsFill key (15 * 2 ^ t.lg_nom / 8) t.kept.theta xs → n ≡ length xs → IsLaidOut key new_lg after → map_of key (filled after) ≡ map_of key xs
      → HasSize new_lg t.lg_nom grow n → new_most ≡ threshold new_lg t.lg_nom → anew.inserted ≡ n → anew.fresh ≡ n → anew.placed ≡ 0 → anew.rebuilds ≡ 0
      → IsProbing key (record t { kept = record { entries = map_of key (filled after); theta = t.kept.theta } }) new_lg grow new_most n after anew
  filled_probing new_lg new_most n after xs anew fill n_is laid same sized most_is inserted fresh placed rebuilds =
      let has = has_slots t.has_slots t.lg_nom is.slotted.table.without_slots (omega (arith, large)) in
      let kept : IsRetained key (record { entries = map_of key (filled after); theta = t.kept.theta }) =
      rw same (record {
        ascending = ascending-map_of key xs;
        nonzero = each-map_of key _ xs fill.nonzero;
        below_theta = each-map_of key _ xs fill.below_theta;
        theta_low = is.slotted.table.kept.theta_low;
        theta_high = is.slotted.table.kept.theta_high;
      }) in
      let counted : n ≡ length (filled after) = omega (arith, n_is, length-apart key xs fill.apart, ap length same, length-map_of key new_lg after laid) in
      record {
        slotted = slotted_next key t lg grow count new_lg n t.kept.theta slots after is.slotted has kept laid counted sized;
        bounded = rw has most_is;
        counted = counted_anew new_lg t.lg_nom n anew inserted fresh placed rebuilds;
      }

-- a table with the settings that it was made with, one insertion further
pub made_with_next : {X : Type 0} → (first was now : MapTable X) → (kept : Retained X) → was ≡ record first { kept = was.kept } → now ≡ record was { kept = kept } → now ≡ record first { kept = now.kept }
made_with_next {X} first was now kept before step =
    let at_first : Retained X → MapTable X = λ v. record first { kept = v } in
    let again : MapTable X → MapTable X = λ t. record t { kept = kept } in
    step ∙ ap again before ∙ ap at_first (sym (ap (λ t. t.kept) step))
