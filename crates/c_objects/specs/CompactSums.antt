-- Calls on compact tuple sketches whose summaries are sums of 64 bits.
use Rattle.std.specs.Prelude.{◌≡◌, ◌⊎◌, ◌≤◌, ◌<◌, ◌++◌, ℕ, List, length, drop, map, Option, Some, None}
use Rattle.std.specs.Int.{w64, to_le_bytes}
use Rattle.sketch_base.specs.Seed.{seed_hash}
use Rattle.core_compact.specs.CompactState.{Compact, shown_of}
use Rattle.core_images.specs.Summary.{SpellsNumber}
use Rattle.core_laws.specs.Maps.{IsListing}
use Rattle.core_laws.specs.Shown.{Shown}
use Rattle.core_slots.specs.Entry.{tuple_key}
use Rattle.core_slots.specs.declared.entry.TupleEntry.{TupleEntry}
use Rattle.core_state.specs.Updatable.{sketch_shows}
use Rattle.keys_sketches.specs.Header.{sums_length}
use Rattle.totals.specs.Totals.{sum_of}
use Rattle.tuple_sketches.specs.Image.{Reads, IsReadable, written}
use Rattle.c_objects.specs.Status.{IsUnreadStatus}
use Rattle.c_objects.specs.Sums.{sums_sketch}
use Rattle.c_objects.specs.SumsStreams.{IsSumsReadAs}
use Rattle.c_objects.specs.Thetas.{state_of}
use Rattle.c_objects.specs.declared.compact_sums.CompactSums.{CompactSums}
use Rattle.c_objects.specs.declared.state.State.{State}
use Rattle.c_objects.specs.declared.sums.SeededSums.{SeededSums}

-- the sketch that bytes begin with, read under a seed: after each hash its sum's eight bytes, the lowest first
abbrev pub IsSumsReadFrom : (bytes : List ℕ) → (seed : ℕ) → CompactSums → Type 0
IsSumsReadFrom bytes seed s = Reads (SpellsNumber 8) bytes (seed_hash seed) s.sketch

-- the refusal of reading: memory, with 3; or bytes that are read as no sketch, with 2
abbrev pub IsSumsReadRefusal : (bytes : List ℕ) → (seed : ℕ) → (status : ℕ) → Type 0
IsSumsReadRefusal bytes seed status = IsUnreadStatus (IsReadable (SpellsNumber 8) bytes (seed_hash seed)) status

-- the sketch that bytes are, all of them, read under a seed
abbrev pub IsWholeSums : (bytes : List ℕ) → (seed : ℕ) → CompactSums → Type 0
IsWholeSums bytes seed s = IsSumsReadFrom bytes seed s × (sums_length bytes ≡ Some (length bytes))

-- the refusal: memory, with 3; or the bytes are no sketch, or not one alone, with 2
abbrev pub IsWholeSumsRefusal : (bytes : List ℕ) → (seed : ℕ) → (status : ℕ) → Type 0
IsWholeSumsRefusal bytes seed status = IsUnreadStatus ((s : CompactSums) × IsWholeSums bytes seed s) status

-- the state of a sketch
abbrev pub compact_sums_state : CompactSums → State
compact_sums_state s = state_of s.sketch

-- the image of a sketch, which is read as that sketch, and as no other
abbrev pub IsCompactSumsImage : CompactSums → List ℕ → Type 0
IsCompactSumsImage s image = (image ≡ written (λ sum. to_le_bytes w64 sum) s.sketch) × IsSumsReadAs image s.sketch

-- a copy of a sketch
abbrev pub IsCopyOfSums : (old new : CompactSums) → Type 0
IsCopyOfSums old new = new ≡ old

-- the total of a sketch: the sum of its sums
abbrev pub compact_total : CompactSums → ℕ
compact_total s = sum_of s.sketch.entries

-- hashes and sums of entries were written to the fronts of two arrays, with status 0; if either is too small, both are as
-- before, with status 6; the number of entries was written in both cases
abbrev pub PutsEntries : (entries : List (TupleEntry ℕ))
    → (hashes_before sums_before : List ℕ)
    → (status : ℕ)
    → (hashes sums : List ℕ)
    → (count : ℕ)
    → Type 0
PutsEntries entries hashes_before sums_before status hashes sums count =
    (count ≡ length entries)
    × (length entries ≤ length hashes_before → length entries ≤ length sums_before
    → (status ≡ 0)
    × (hashes ≡ map tuple_key entries ++ drop (length entries) hashes_before)
    × (sums ≡ map (λ e. e.summary) entries ++ drop (length entries) sums_before))
    × ((length hashes_before < length entries) ⊎ (length sums_before < length entries)
    → (status ≡ 6) × (hashes ≡ hashes_before) × (sums ≡ sums_before))

-- the entries of a sketch were put into two arrays; a handle without one is refused with 1, and nothing is written
abbrev pub CopiesEntries : Option CompactSums
    → (hashes_before sums_before : List ℕ)
    → (count_before status : ℕ)
    → (hashes sums : List ℕ)
    → (count : ℕ)
    → Type 0
CopiesEntries None hashes_before sums_before count_before status hashes sums count =
    (status ≡ 1) × (hashes ≡ hashes_before) × (sums ≡ sums_before) × (count ≡ count_before)
CopiesEntries (Some s) hashes_before sums_before count_before status hashes sums count =
    PutsEntries s.sketch.entries hashes_before sums_before status hashes sums count

-- the same of a sketch that takes updates, which lists each of its entries once, in some order
abbrev pub CopiesEntriesOf : Option SeededSums
    → (hashes_before sums_before : List ℕ)
    → (count_before status : ℕ)
    → (hashes sums : List ℕ)
    → (count : ℕ)
    → Type 0
CopiesEntriesOf None hashes_before sums_before count_before status hashes sums count =
    (status ≡ 1) × (hashes ≡ hashes_before) × (sums ≡ sums_before) × (count ≡ count_before)
CopiesEntriesOf (Some t) hashes_before sums_before count_before status hashes sums count =
    PutsEntries (sums_sketch t).sequence hashes_before sums_before status hashes sums count
    × IsListing tuple_key (sums_sketch t).map.kept.entries (sums_sketch t).sequence

-- a call of an operator on a sketch that takes updates: `Does`, on what the sketch shows and lists
abbrev pub OfSums : {O : Type 0}
    → (Does : Shown → List (TupleEntry ℕ) → O → ℕ → O → Type 0)
    → SeededSums
    → (old : O)
    → (status : ℕ)
    → (new : O)
    → Type 0
OfSums Does t old status new = Does (sketch_shows tuple_key (sums_sketch t)) (sums_sketch t).sequence old status new

-- .. on a compact sketch
abbrev pub OfCompactSums : {O : Type 0}
    → (Does : Shown → List (TupleEntry ℕ) → O → ℕ → O → Type 0)
    → CompactSums
    → (old : O)
    → (status : ℕ)
    → (new : O)
    → Type 0
OfCompactSums Does s old status new = Does (shown_of tuple_key s.sketch) s.sketch.entries old status new

-- .. on the sketch that bytes begin with, read under the operator's seed; or reading was refused, with 2 or 3, and
-- nothing has changed
abbrev pub OfSumsImage : {O : Type 0}
    → (Does : Shown → List (TupleEntry ℕ) → O → ℕ → O → Type 0)
    → (seed_in : O → ℕ)
    → (image : List ℕ)
    → (old : O)
    → (status : ℕ)
    → (new : O)
    → Type 0
OfSumsImage Does seed_in image old status new =
    ((s : Compact (TupleEntry ℕ)) × Reads (SpellsNumber 8) image (seed_hash (seed_in old)) s × Does (shown_of tuple_key s) s.entries old status new)
    ⊎ (IsSumsReadRefusal image (seed_in old) status × (new ≡ old))
