-- An insertion of a hash that isn't screened, at the slot where its search ends.
use Rattle.std.proofs.Common.{◌≡◌, ℕ, ◌+◌, ◌^◌, ◌<◌, Bool, true, false, IsTrue, not, List, length, set, Option, Some, None, sym, ap, subst, ◌∙◌, refl, arith}
use Rattle.std.specs.Prelude.{is_some, is_none, ◌||◌}
use Rattle.std.specs.Option.{ForSome}
use Rattle.std.proofs.lemmas.Bool.Decides.{nat_tests}
use Rattle.core_laws.specs.Step.{Step}
use Rattle.core_laws.specs.Maps.{entry_at, with_entry, map_of}
use Rattle.core_laws.specs.Cuts.{IsRetained}
use Rattle.core_laws.specs.Insertion.{is_screened, after_absent, rebuilt, creates}
use Rattle.core_laws.proofs.insertions.Cases.{IsCase, existing_case, absent_case, IsRetained-with_entry, IsRetained-rebuilt}
use Rattle.core_slots.specs.SlotLayout.{filled, slot, is_other, IsOnPath, IsLaidOut}
use Rattle.core_slots.proofs.SlotLayouts.{search_finds}
use Rattle.core_table.specs.declared.insertion.Counts.{Counts}
use Rattle.core_table.specs.declared.insertion.Sizes.{Sizes}
use Rattle.core_table.specs.HashTable.{Table, MapTable, IsProbing, HasSize, IsBelowThreshold, may_insert, threshold, ticked, size_after, count_after, after_insertion, counts_after, lg_cur_after}
use Rattle.core_table.proofs.Counting.{counted_looks, counted_ticked}
use Rattle.core_table.proofs.Slotted.{taken_is, free_is, must_fit, slotted_next, slotted_count, filled_over, written_joins, written_laid_out, key_found}

-- a table with other slots and another theta
abbrev pub in_slots : {X : Type 0} → (key : X → ℕ) → List (Option X) → (theta : ℕ) → MapTable X → MapTable X
in_slots key slots theta t = record t { kept = record { entries = map_of key (filled slots); theta = theta } }

-- In what follows v is the table that clauses speak of, and u the same one, by the fields in memory.

-- these slots are those after the step wrote an entry
pub record IsOverwritten {X : Type 0} (key : X → ℕ) {u v : Table X} (view_is : u ≡ v) (most count hash : ℕ) (step : Step X) (slots : List (Option X)) : Type 0 where
  pub probing : IsProbing key (in_slots key slots u.map.kept.theta u.map) u.layout.lg_cur u.layout.grow most count slots u.counts
  pub after : in_slots key slots u.map.kept.theta u.map ≡ after_insertion key hash step v.map

-- these sizes, slots and counts are those after a new entry was put
pub record IsPut {X : Type 0} (key : X → ℕ) {u v : Table X} (view_is : u ≡ v) (hash : ℕ) (step : Step X) (now : Sizes) (slots : List (Option X)) (counts : Counts) : Type 0 where
  pub probing : IsProbing key (in_slots key slots now.theta u.map) now.lg_cur u.layout.grow now.most now.count slots counts
  pub after : in_slots key slots now.theta u.map ≡ after_insertion key hash step v.map
  pub ok : true ≡ creates key hash step v.map.kept
  pub ticked : counts ≡ record (counts_after v true) { looks = counts.looks }
  pub sized : now.lg_cur ≡ lg_cur_after v true

-- they are if `put_entry` gave them for the entry x
abbrev pub IfPut : {X : Type 0} → (key : X → ℕ) → {u v : Table X} → (view_is : u ≡ v) → (count hash : ℕ) → Step X → (x : X) → (now : Sizes) → List (Option X) → Counts → Type 0
IfPut key {u} view_is count hash step x now slots counts =
    IsLaidOut key now.lg_cur slots → now.count ≡ length (filled slots) → HasSize now.lg_cur u.map.lg_nom u.layout.grow now.count
    → now.lg_cur ≡ size_after u.layout.lg_cur u.map.lg_nom u.layout.grow count → now.most ≡ threshold now.lg_cur u.map.lg_nom → now.count ≡ count_after u.layout.lg_cur u.map.lg_nom count
    → record { entries = map_of key (filled slots); theta = now.theta } ≡ rebuilt key (2 ^ u.map.lg_nom) (with_entry key (map_of key (filled u.layout.slots)) x) u.map.kept.theta
    → counts ≡ record (ticked u.layout.lg_cur u.map.lg_nom count u.counts) { looks = counts.looks } → IsPut key view_is hash step now slots counts

-- the search ended at the entry that has the hash
pub record IsAtEntry {X : Type 0} (key : X → ℕ) {u v : Table X} (view_is : u ≡ v) (most count hash at : ℕ) (step : Step X) : Type 0 where
  pub entry : X
  pub content : slot u.layout.slots at ≡ Some entry
  pub case : IsCase key (2 ^ v.map.lg_nom) hash step v.map.kept false (record { entries = with_entry key v.map.kept.entries (step.writes entry); theta = v.map.kept.theta }) (step.refuses_existing entry) step.allocates
  pub written : (slots : List (Option X)) → slots ≡ set u.layout.slots at (Some (step.writes entry)) → IsOverwritten key view_is most count hash step slots

-- the search ended at a free slot
pub record IsAtFree {X : Type 0} (key : X → ℕ) {u v : Table X} (view_is : u ≡ v) (most count hash at : ℕ) (step : Step X) : Type 0 where
  pub fits : u.map.lg_nom < 3 → count + 1 < 2 ^ u.layout.lg_cur
  pub limited : IsBelowThreshold v → count < threshold u.layout.lg_cur u.map.lg_nom
  pub case : IsCase key (2 ^ v.map.lg_nom) hash step v.map.kept (is_some step.makes) (after_absent key (2 ^ v.map.lg_nom) step v.map.kept) step.refuses_absent (step.allocates || is_some step.makes)
  pub put : (x : X) → step.makes ≡ Some x → (now : Sizes) → (slots : List (Option X)) → (counts : Counts) → IfPut key view_is count hash step x now slots counts

module _ {X : Type 0} (key : X → ℕ) (u v : Table X) (view_is : u ≡ v) (most count hash at : ℕ) (step : Step X) (is_free : Bool)
    (is : IsProbing key u.map u.layout.lg_cur u.layout.grow most count u.layout.slots u.counts) (same : u.map.kept.entries ≡ map_of key (filled u.layout.slots))
    (may : IsTrue (may_insert key hash v.map)) (passes : is_screened hash v.map.kept.theta ≡ false) (inside : at < length v.layout.slots)
    (on_path : IsOnPath key v.layout.lg_cur v.layout.slots hash at) (ends : is_other key hash (slot v.layout.slots at) ≡ false) (is_free_is : is_free ≡ is_none (slot v.layout.slots at)) where
  screens : is_screened hash u.map.kept.theta ≡ false
  screens = rw view_is passes

  nonzero : 0 < hash
  nonzero = grind (arith, nat_tests, screens)

  low : hash < u.map.kept.theta
  low = grind (arith, nat_tests, screens)

  path : IsOnPath key u.layout.lg_cur u.layout.slots hash at
  path = rw view_is on_path

  stops : is_other key hash (slot u.layout.slots at) ≡ false
  stops = rw view_is ends

  held : at < length u.layout.slots
  held = rw view_is inside

  with_slots : u.map.has_slots ≡ true
  with_slots = (elim u.map.has_slots as (λ b. u.map.has_slots ≡ b → b ≡ true) [ true ↦ λ e. refl | false ↦ λ e. absurd (omega (arith, held, ap length (is.slotted.without e))) ]) refl

  laid : IsLaidOut key u.layout.lg_cur u.layout.slots
  laid = is.slotted.laid_out with_slots

  there : entry_at key u.map.kept.entries hash ≡ slot u.layout.slots at
  there = rw same (search_finds key u.layout.lg_cur hash at u.layout.slots laid path stops)

  kept_with : (x : X) → key x ≡ hash → IsRetained key (record { entries = with_entry key (map_of key (filled u.layout.slots)) x; theta = u.map.kept.theta })
  kept_with x has_key =
      let kept : IsRetained key (record { entries = map_of key (filled u.layout.slots); theta = u.map.kept.theta }) = subst (λ k. IsRetained key k) (λ i. record { entries = same i; theta = u.map.kept.theta }) is.slotted.table.kept in
      IsRetained-with_entry key (map_of key (filled u.layout.slots)) u.map.kept.theta x kept (omega (arith, has_key, nonzero)) (omega (arith, has_key, low))

  module _ (keeps_hash : (x : X) → key x ≡ hash → key (step.writes x) ≡ hash) (x : X) (content : slot u.layout.slots at ≡ Some x) where
    entry_case : IsCase key (2 ^ u.map.lg_nom) hash step u.map.kept false (record { entries = with_entry key u.map.kept.entries (step.writes x); theta = u.map.kept.theta }) (step.refuses_existing x) step.allocates
    entry_case = existing_case key (2 ^ u.map.lg_nom) hash step u.map.kept x screens (there ∙ content)

    overwritten : (slots : List (Option X)) → slots ≡ set u.layout.slots at (Some (step.writes x)) → IsOverwritten key view_is most count hash step slots
    overwritten slots wrote =
        let y = step.writes x in
        let keeps : key y ≡ hash = keeps_hash x (key_found key u.layout.lg_cur hash at x u.layout.slots content stops) in
        let joins = written_joins key u.layout.lg_cur hash at x y u.layout.slots laid held path stops keeps in
        record {
          probing = rw wrote (record {
            slotted = slotted_next key u.map u.layout.lg_cur u.layout.grow count u.layout.lg_cur count u.map.kept.theta u.layout.slots (set u.layout.slots at (Some y)) is.slotted with_slots (rw joins (kept_with y keeps))
                (written_laid_out key u.layout.lg_cur hash at x y u.layout.slots laid held path stops keeps) (is.slotted.counted ∙ sym (filled_over key u.layout.slots at y x content)) (is.slotted.sized with_slots);
            bounded = is.bounded;
            counted = is.counted;
          });
          after = rw (← view_is, entry_case.after_is, wrote, joins, same) refl;
        }

  -- at the entry that has the hash
  pub at_entry : ((x : X) → key x ≡ hash → key (step.writes x) ≡ hash) → not is_free ≡ true → IsAtEntry key view_is most count hash at step
  at_entry keeps_hash taken =
      let one = taken_is (slot u.layout.slots at) is_free (rw view_is is_free_is) taken in
      record {
        entry = one.0;
        content = one.1;
        case = rw (← view_is) (entry_case keeps_hash one.0 one.1);
        written = overwritten keeps_hash one.0 one.1;
      }

  module _ (makes_hash : ForSome step.makes (λ x. key x ≡ hash)) (none : slot u.layout.slots at ≡ None) where
    free_case : IsCase key (2 ^ u.map.lg_nom) hash step u.map.kept (is_some step.makes) (after_absent key (2 ^ u.map.lg_nom) step u.map.kept) step.refuses_absent (step.allocates || is_some step.makes)
    free_case = absent_case key (2 ^ u.map.lg_nom) hash step u.map.kept screens (there ∙ none)

    has_room : u.map.lg_nom < 3 → count + 1 < 2 ^ u.layout.lg_cur
    has_room = must_fit key u.map u.layout.lg_cur u.layout.grow count hash u.layout.slots is.slotted same with_slots screens (there ∙ none) (rw view_is may)

    many : count ≡ length u.map.kept.entries
    many = slotted_count key u.map u.layout.lg_cur u.layout.grow count u.layout.slots is.slotted ∙ ap length (sym same)

    module _ (x : X) (made : step.makes ≡ Some x) where
      has_key : key x ≡ hash
      has_key = makes_hash x made

      was_put : (now : Sizes) → (slots : List (Option X)) → (counts : Counts) → IfPut key view_is count hash step x now slots counts
      was_put now slots counts laid_out counted sized size most_is count_is kept_is ticks =
          let ticking = counted_ticked u.layout.lg_cur u.map.lg_nom u.layout.grow count u.counts (is.slotted.sized with_slots) has_room is.counted in
          let kept = IsRetained-rebuilt key (2 ^ u.map.lg_nom) _ _ (kept_with x has_key) in
          record {
            probing = record {
              slotted = slotted_next key u.map u.layout.lg_cur u.layout.grow count now.lg_cur now.count now.theta u.layout.slots slots is.slotted with_slots (rw kept_is kept) laid_out counted sized;
              bounded = rw with_slots most_is;
              counted = rw (size, count_is, ticks) (counted_looks _ _ _ _ ticking counts.looks);
            };
            after = rw (← view_is, free_case.after_is, made, kept_is, same) refl;
            ok = rw (← view_is) (sym (free_case.creates_is ∙ ap is_some made));
            ticked = rw (← view_is, ← many) ticks;
            sized = rw (← view_is, ← many) size;
          }

  -- at a free slot
  pub at_free : ForSome step.makes (λ x. key x ≡ hash) → not is_free ≡ false → IsAtFree key view_is most count hash at step
  at_free makes_hash free =
      let none = free_is (slot u.layout.slots at) is_free (rw view_is is_free_is) free in
      record {
        fits = has_room makes_hash none;
        limited = rw (← view_is) (λ low. omega (arith, many makes_hash none, low));
        case = rw (← view_is) (free_case makes_hash none);
        put = was_put makes_hash none;
      }
