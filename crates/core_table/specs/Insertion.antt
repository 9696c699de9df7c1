-- A new entry and the free slot where the search for it ended.
use Rattle.std.specs.Prelude.{ℕ, ◌<◌, ◌≡◌, ◌+◌, ◌-◌, ◌^◌, List, Option, Some, length, map, min, set, Result, IfOk, OnOk, OnErr}
use Rattle.std.specs.List.{AllByRecursion}
use Rattle.core_laws.specs.Cuts.{Retained, cut}
use Rattle.core_laws.specs.Insertion.{rebuilt}
use Rattle.core_laws.specs.Maps.{map_of, with_entry}
use Rattle.core_slots.specs.SlotLayout.{filled, slot, slot_map, entries_in, IsLaidOut}
use Rattle.core_slots.specs.Placing.{IsFreeFor, LooksAtPlaced, LooksForEach}
use Rattle.core_table.specs.HashTable.{threshold, HasSize, size_after, count_after, ticked}
use Rattle.core_table.specs.declared.insertion.Counts.{Counts}
use Rattle.core_table.specs.declared.insertion.Sizes.{Sizes}

-- slots of these sizes, with their entries below theta, have a free slot for the entry, which may be retained
pub record HasPlaceFor {X : Type 0} (key : X → ℕ) (slots : List (Option X)) (sizes : Sizes) (at : ℕ) (entry : X) : Type 0 where
  pub free_slot : IsFreeFor key sizes.lg_cur slots at entry
  pub counted : sizes.count ≡ length (filled slots)
  pub below_theta : AllByRecursion (λ x. key x < sizes.theta) (map_of key (filled slots))
  pub sized : HasSize sizes.lg_cur sizes.lg_nom sizes.grow sizes.count
  pub bounded : sizes.most ≡ threshold sizes.lg_cur sizes.lg_nom
  pub low : key entry < sizes.theta

-- the map of the entries that slots in memory hold, and a theta
abbrev pub kept_in : {S X : Type 0} → (key : X → ℕ) → (content : S → Option X) → List S → (theta : ℕ) → Retained X
kept_in key content slots theta = record { entries = slot_map key content slots; theta = theta }

-- what is retained after a new entry is put into slots of these sizes that hold the entries `xs`
abbrev pub after_put : {X : Type 0} → (key : X → ℕ) → Sizes → List X → X → Retained X
after_put key sizes xs entry = rebuilt key (2 ^ sizes.lg_nom) (with_entry key xs entry) sizes.theta

-- the sizes after a growth with a new entry
abbrev pub grown : Sizes → Sizes
grown sizes =
    record sizes {
      lg_cur = min (sizes.lg_cur + sizes.grow) (sizes.lg_nom + 1);
      most = threshold (min (sizes.lg_cur + sizes.grow) (sizes.lg_nom + 1)) sizes.lg_nom;
      count = sizes.count + 1;
    }

-- for every theta above all these entries, what is retained is their cut below it
abbrev pub IsCutOf : {X : Type 0} → (key : X → ℕ) → (nominal : ℕ) → List X → Retained X → Type 0
IsCutOf key nominal xs kept = (t : ℕ) → AllByRecursion (λ x. key x < t) xs → kept ≡ cut key nominal xs t

-- the entry in a slot was written, and the other slots are as they were
abbrev pub IsWritten : {X : Type 0} → (at : ℕ) → (writes : X → X) → (old new : List (Option X)) → Type 0
IsWritten {X} at writes old new = (x : X) → slot old at ≡ Some x → new ≡ set old at (Some (writes x))

-- what putting an entry into slots of these sizes makes of them: the slots, their new sizes and what is retained by them, what
-- is counted, and what stays if memory is refused
pub record Puts {S X E : Type 0} (key : X → ℕ) (content : S → Option X) (sizes : Sizes) (entry : X) (old : List S) (before : Counts)
    (result : Result Sizes E) (new : List S) (done : Counts) : Type 0 where
  pub laid_out : IfOk result (λ s. IsLaidOut key s.lg_cur (map content new))
  pub counted : IfOk result (λ s. s.count ≡ length (entries_in content new))
  pub after : IfOk result (λ s. kept_in key content new s.theta ≡ after_put key sizes (slot_map key content old) entry)
  pub sized : IfOk result (λ s. HasSize s.lg_cur sizes.lg_nom sizes.grow s.count)
  pub size : IfOk result (λ s. s.lg_cur ≡ size_after sizes.lg_cur sizes.lg_nom sizes.grow sizes.count)
  pub most : IfOk result (λ s. s.most ≡ threshold s.lg_cur sizes.lg_nom)
  pub count : IfOk result (λ s. s.count ≡ count_after sizes.lg_cur sizes.lg_nom sizes.count)
  pub err : OnErr result (new ≡ old)
  pub looks : LooksAtPlaced (done.placed - before.placed) before.looks done.looks
  pub looked : LooksForEach (done.placed - before.placed) before.looks done.looks
  pub ticked : OnOk result (done ≡ record (ticked sizes.lg_cur sizes.lg_nom sizes.count before) { looks = done.looks })
  pub unticked : OnErr result (done ≡ record before { looks = done.looks })
