-- Calls on tuple sketches whose summaries are numbers of 64 bits: sums, or least or greatest numbers, as their mode says.
use Rattle.std.specs.Prelude.{◌≡◌, ◌≢◌, ◌<◌, ◌^◌, ℕ, List, [], ◌∷◌, true, false, nat_lt, length, IsTrue, Some, None}
use Rattle.std.specs.Int.{w64, to_le_bytes}
use Rattle.sketch_base.specs.Seed.{hash_of, seed_hash}
use Rattle.core_compact.specs.CompactState.{Compact, IsAnswer}
use Rattle.core_laws.specs.Insertion.{upsert_refusal, upsert_allocates}
use Rattle.core_slots.specs.Entry.{tuple_key}
use Rattle.core_slots.specs.declared.entry.TupleEntry.{TupleEntry}
use Rattle.core_state.specs.Updatable.{Updatable, sketch_value}
use Rattle.core_table.specs.HashTable.{empty_table, after_insertion, after_reset, trimmed_table}
use Rattle.totals.specs.Totals.{sum_of}
use Rattle.tuple_sketches.specs.Image.{written}
use Rattle.tuple_sketches.specs.Numbers.{adds_number}
use Rattle.tuple_sketches.specs.Sketch.{sketch_state}
use Rattle.tuple_sketches.specs.declared.numbers.SummaryMode.{SummaryMode}
use Rattle.c_objects.specs.Settings.{valid_mode}
use Rattle.c_objects.specs.Status.{IsRefusal}
use Rattle.c_objects.specs.SumsStreams.{IsSumsOf, GivesValues, GivesNoValues, GivesTrimmedSums, GivesSumsAnew, HasSums, IsSumsReadAs}
use Rattle.c_objects.specs.Thetas.{value_state}
use Rattle.c_objects.specs.declared.compact_sums.CompactSums.{CompactSums}
use Rattle.c_objects.specs.declared.state.State.{State}
use Rattle.c_objects.specs.declared.sums.SeededSums.{SeededSums}

-- what contracts see of a tuple sketch
abbrev pub sums_sketch : SeededSums → Updatable (TupleEntry ℕ)
sums_sketch t = sketch_state t.sketch

-- the mode of a sketch: what it keeps of the values of a hash
abbrev pub sums_mode : SeededSums → SummaryMode
sums_mode t = t.sketch.policy.mode

-- a sketch has the seed and the mode of another
abbrev pub KeepsSettings : (old new : SeededSums) → Type 0
KeepsSettings old new = (new.seed ≡ old.seed) × (sums_mode new ≡ sums_mode old)

-- a new sketch of a mode: empty, with these settings, of which the hash of the seed isn't 0, and given nothing
abbrev pub IsNewSums : SummaryMode → (lg_k start seed : ℕ) → SeededSums → Type 0
IsNewSums mode lg_k start seed t =
    (t.seed ≡ seed)
    × (sums_mode t ≡ mode)
    × ((sums_sketch t).empty ≡ true)
    × ((sums_sketch t).map ≡ empty_table lg_k start seed)
    × (0 < seed_hash seed)
    × IsSumsOf mode lg_k start seed (sums_sketch t) []

-- a new sketch of the mode that a number names
abbrev pub IsNewSumsByMode : (mode lg_k start seed : ℕ) → SeededSums → Type 0
IsNewSumsByMode mode lg_k start seed t = (valid_mode mode ≡ Some (sums_mode t)) × IsNewSums (sums_mode t) lg_k start seed t

-- a copy of a sketch: the same entries, theta and settings, and given the same
abbrev pub IsSameSums : (old new : SeededSums) → Type 0
IsSameSums old new =
    KeepsSettings old new
    × ((sums_sketch new).empty ≡ (sums_sketch old).empty)
    × ((sums_sketch new).map ≡ (sums_sketch old).map)
    × GivesNoValues (sums_sketch old) (sums_sketch new)

-- a value was combined into the number at a hash, as the mode says
abbrev pub AcceptsValue : SummaryMode → (hash value : ℕ) → (old new : Updatable (TupleEntry ℕ)) → Type 0
AcceptsValue mode hash value old new =
    (new.empty ≡ false)
    × (new.map ≡ after_insertion tuple_key hash (adds_number mode hash value) old.map)
    × (upsert_refusal tuple_key hash (adds_number mode hash value) old.map.kept ≡ None)
    × GivesValues mode ((hash, value) ∷ []) old new

-- the refusal of adding a value at a hash: a sum of 2^64 or more, or memory for a new hash below theta
abbrev pub RefusesValue : SummaryMode → (hash value : ℕ) → Updatable (TupleEntry ℕ) → (status : ℕ) → Type 0
RefusesValue mode hash value old status =
    let step = record (adds_number mode hash value) { allocates = false } in
    IsRefusal (upsert_refusal tuple_key hash (adds_number mode hash value) old.map.kept) (upsert_allocates tuple_key hash step old.map.kept) status

-- a value was combined into the number at a hash, with status 0; or it was refused, with 4 for a sum of 2^64 or more and with 3
-- for memory, which is requested only for a new hash below theta, and nothing has changed
abbrev pub AddsValue : (hash value : ℕ) → (old : SeededSums) → (status : ℕ) → (new : SeededSums) → Type 0
AddsValue hash value old status new =
    KeepsSettings old new
    × (status ≡ 0 → AcceptsValue (sums_mode old) hash value (sums_sketch old) (sums_sketch new))
    × (status ≢ 0
    → RefusesValue (sums_mode old) hash value (sums_sketch old) status
    × ((sums_sketch new).empty ≡ (sums_sketch old).empty)
    × ((sums_sketch new).map ≡ (sums_sketch old).map)
    × GivesNoValues (sums_sketch old) (sums_sketch new))

-- a value was combined into that of a key that is a number, by the hash of its eight bytes, the lowest first
abbrev pub AddsAtNumber : (number value : ℕ) → (old : SeededSums) → (status : ℕ) → (new : SeededSums) → Type 0
AddsAtNumber number value old status new = AddsValue (hash_of old.seed (to_le_bytes w64 number)) value old status new

-- a value was combined into that of a key that is bytes, by their hash
abbrev pub AddsAtBytes : (bytes : List ℕ) → (value : ℕ) → (old : SeededSums) → (status : ℕ) → (new : SeededSums) → Type 0
AddsAtBytes bytes value old status new = AddsValue (hash_of old.seed bytes) value old status new

-- the sketch was cut to its nominal entries, with status 0; or memory was refused, with 3, and nothing has changed
abbrev pub TrimsSums : (old : SeededSums) → (status : ℕ) → (new : SeededSums) → Type 0
TrimsSums old status new =
    KeepsSettings old new
    × ((sums_sketch new).empty ≡ (sums_sketch old).empty)
    × (status ≡ 0 → (sums_sketch new).map ≡ trimmed_table tuple_key (sums_sketch old).map)
    × (status ≢ 0
    → (status ≡ 3)
    × ((sums_sketch new).map ≡ (sums_sketch old).map)
    × IsTrue (nat_lt (2 ^ (sums_sketch old).map.lg_nom) (length (sums_sketch old).map.kept.entries)))
    × (status ≡ 0 → GivesTrimmedSums (sums_sketch old) (sums_sketch new))
    × (status ≢ 0 → GivesNoValues (sums_sketch old) (sums_sketch new))

-- the sketch is empty again, as when it was new
abbrev pub ResetsSums : (old : SeededSums) → (status : ℕ) → (new : SeededSums) → Type 0
ResetsSums old status new =
    (status ≡ 0)
    × KeepsSettings old new
    × ((sums_sketch new).empty ≡ true)
    × ((sums_sketch new).map ≡ after_reset (sums_sketch old).map)
    × GivesSumsAnew (sums_sketch old) (sums_sketch new)

-- the state of a sketch
abbrev pub sums_state : SeededSums → State
sums_state t = value_state (sums_sketch t).empty (sketch_value (sums_sketch t))

-- the image of the ordered compact form of a sketch, which is read as that form, and as no other: after each hash its
-- number's eight bytes, the lowest first
abbrev pub IsImageOfSums : SeededSums → List ℕ → Type 0
IsImageOfSums t image =
    (s : Compact (TupleEntry ℕ))
    × (image ≡ written (λ sum. to_le_bytes w64 sum) s)
    × IsAnswer tuple_key (sketch_value (sums_sketch t)) (sums_sketch t).map.seed_hash true s
    × HasSums (sums_sketch t) s
    × IsSumsReadAs image s

-- the ordered compact form of a sketch
abbrev pub IsCompactFormOfSums : SeededSums → CompactSums → Type 0
IsCompactFormOfSums t s =
    IsAnswer tuple_key (sketch_value (sums_sketch t)) (sums_sketch t).map.seed_hash true s.sketch × HasSums (sums_sketch t) s.sketch

-- the total of a sketch: the sum of its numbers, whatever the mode
abbrev pub sums_total : SeededSums → ℕ
sums_total t = sum_of (sums_sketch t).sequence
