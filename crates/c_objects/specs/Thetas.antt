-- Calls on theta sketches: by the sketch before, the arguments, the status and the sketch after.
use Rattle.std.specs.Prelude.{◌≡◌, ◌≢◌, ◌⊎◌, ◌<◌, ◌^◌, ◌==◌, ◌&&◌, ℕ, Bool, List, [], ◌∷◌, length, true, false, nat_lt, Option, Some, None}
use Rattle.std.specs.Prelude.{if◌then◌else◌, IsTrue}
use Rattle.std.specs.Int.{w64, to_le_bytes}
use Rattle.sketch_base.specs.Seed.{hash_of, seed_hash}
use Rattle.core_compact.specs.CompactState.{Compact, IsAnswer, shown_of}
use Rattle.core_laws.specs.Entries.{hash_key}
use Rattle.core_laws.specs.Maps.{IsListing}
use Rattle.core_laws.specs.Parts.{StopsAt}
use Rattle.core_laws.specs.Shown.{Shown}
use Rattle.core_laws.specs.Values.{Sketch, theta_of, count_of}
use Rattle.core_state.specs.Updatable.{sketch_value, sketch_shows, StopsUpdates}
use Rattle.core_table.specs.HashTable.{empty_table, after_hash, after_hashes, after_reset, hash_allocates}
use Rattle.core_table.specs.HashTable.{trimmed_table}
use Rattle.keys_sketches.specs.Header.{image_length}
use Rattle.theta_sketches.specs.Image.{Reads, IsReadable, written}
use Rattle.theta_sketches.specs.Streams.{IsSketchOf, GivesMore, GivesNothing}
use Rattle.c_objects.specs.Buffer.{IsPut}
use Rattle.c_objects.specs.Status.{IsUnreadStatus}
use Rattle.c_objects.specs.Streams.{GivesHashes, GivesTrimmed, GivesAnew, HasSketch, IsReadAs}
use Rattle.c_objects.specs.declared.compact.CompactSketch.{CompactSketch}
use Rattle.c_objects.specs.declared.state.State.{State}
use Rattle.c_objects.specs.declared.theta.SeededSketch.{SeededSketch}

-- a new sketch: empty, with these settings, of which the hash of the seed isn't 0, and given nothing
abbrev pub IsNewSketch : (lg_k start seed : ℕ) → SeededSketch → Type 0
IsNewSketch lg_k start seed t =
    (t.seed ≡ seed)
    × (t.sketch.empty ≡ true)
    × (t.sketch.map ≡ empty_table lg_k start seed)
    × (0 < seed_hash seed)
    × IsSketchOf lg_k start seed t.sketch []

-- a copy of a sketch: the same entries, theta and settings, and given the same
abbrev pub IsSameSketch : (old new : SeededSketch) → Type 0
IsSameSketch old new =
    (new.seed ≡ old.seed) × (new.sketch.empty ≡ old.sketch.empty) × (new.sketch.map ≡ old.sketch.map) × GivesNothing old.sketch new.sketch

-- a hash was inserted, with status 0; or memory was refused, which an insertion requests only for a new hash below theta,
-- with status 3, and nothing has changed
abbrev pub UpdatesHash : (hash : ℕ) → (old : SeededSketch) → (status : ℕ) → (new : SeededSketch) → Type 0
UpdatesHash hash old status new =
    (new.seed ≡ old.seed)
    × (status ≡ 0 → (new.sketch.empty ≡ false) × (new.sketch.map ≡ after_hash hash old.sketch.map))
    × (status ≢ 0
    → (status ≡ 3)
    × (new.sketch.empty ≡ old.sketch.empty)
    × (new.sketch.map ≡ old.sketch.map)
    × IsTrue (hash_allocates hash old.sketch.map.kept))
    × GivesHashes (hash ∷ []) old.sketch status new.sketch

-- a number of 64 bits was inserted by the hash of its eight bytes, the lowest first
abbrev pub UpdatesNumber : (number : ℕ) → (old : SeededSketch) → (status : ℕ) → (new : SeededSketch) → Type 0
UpdatesNumber number old status new = UpdatesHash (hash_of old.seed (to_le_bytes w64 number)) old status new

-- bytes were inserted by their hash
abbrev pub UpdatesBytes : (bytes : List ℕ) → (old : SeededSketch) → (status : ℕ) → (new : SeededSketch) → Type 0
UpdatesBytes bytes old status new = UpdatesHash (hash_of old.seed bytes) old status new

-- hashes were inserted in turn, with status 0; or, with status 3, exactly those before one for which memory was refused
abbrev pub UpdatesHashes : (hashes : List ℕ) → (old : SeededSketch) → (status : ℕ) → (new : SeededSketch) → Type 0
UpdatesHashes hashes old status new =
    (new.seed ≡ old.seed)
    × (status ≡ 0 → (new.sketch.map ≡ after_hashes hashes old.sketch.map) × (new.sketch.empty ≡ (old.sketch.empty && length hashes == 0)))
    × (status ≢ 0 → (status ≡ 3) × StopsUpdates hashes old.sketch new.sketch)
    × (status ≡ 0 → GivesMore old.sketch new.sketch (λ _. hashes))
    × (status ≢ 0 → StopsAt hashes (λ front _. GivesMore old.sketch new.sketch (λ _. front)))

-- the sketch was cut to its nominal entries, with status 0; or memory was refused, which a trim requests only if more are
-- retained, with status 3, and nothing has changed
abbrev pub Trims : (old : SeededSketch) → (status : ℕ) → (new : SeededSketch) → Type 0
Trims old status new =
    (new.seed ≡ old.seed)
    × (new.sketch.empty ≡ old.sketch.empty)
    × (status ≡ 0 → new.sketch.map ≡ trimmed_table hash_key old.sketch.map)
    × (status ≢ 0
    → (status ≡ 3)
    × (new.sketch.map ≡ old.sketch.map)
    × IsTrue (nat_lt (2 ^ old.sketch.map.lg_nom) (length old.sketch.map.kept.entries)))
    × (status ≡ 0 → GivesTrimmed old.sketch new.sketch)
    × (status ≢ 0 → GivesNothing old.sketch new.sketch)

-- the sketch is empty again, as when it was new
abbrev pub Resets : (old : SeededSketch) → (status : ℕ) → (new : SeededSketch) → Type 0
Resets old status new =
    (status ≡ 0) × (new.seed ≡ old.seed) × (new.sketch.empty ≡ true) × (new.sketch.map ≡ after_reset old.sketch.map) × GivesAnew old.sketch new.sketch

-- the state of a value, with whether it is empty
abbrev pub value_state : {X : Type 0} → Bool → Sketch X → State
value_state empty v = record { retained = count_of v; theta = theta_of v; empty = (if empty then 1 else 0) }

-- the state of a sketch that takes updates
abbrev pub theta_state : SeededSketch → State
theta_state t = value_state t.sketch.empty (sketch_value t.sketch)

-- a hash was inserted into a sketch, and with status 0 the state after it was written; otherwise nothing is written
abbrev pub InsertsHash : (hash : ℕ) → (before after : State) → (old : SeededSketch) → (status : ℕ) → (new : SeededSketch) → Type 0
InsertsHash hash before after old status new =
    UpdatesHash hash old status new × (status ≡ 0 → after ≡ theta_state new) × (status ≢ 0 → after ≡ before)

-- the state of a compact sketch, of either family
abbrev pub state_of : {X : Type 0} → Compact X → State
state_of s = record { retained = length s.entries; theta = s.theta; empty = (if s.empty then 1 else 0) }

abbrev pub compact_state : CompactSketch → State
compact_state s = state_of s.sketch

-- the image of a compact sketch, which is read as that sketch, and as no other
abbrev pub IsCompactImage : CompactSketch → List ℕ → Type 0
IsCompactImage s image = (image ≡ written s.sketch) × IsReadAs image s.sketch

-- a copy of a compact sketch
abbrev pub IsCopy : (old new : CompactSketch) → Type 0
IsCopy old new = new ≡ old

-- the image of the ordered compact form of a sketch, which is read as that form, and as no other
abbrev pub IsImageOf : SeededSketch → List ℕ → Type 0
IsImageOf t image =
    (s : Compact ℕ)
    × (image ≡ written s)
    × IsAnswer hash_key (sketch_value t.sketch) t.sketch.map.seed_hash true s
    × HasSketch t.sketch s
    × IsReadAs image s

-- the ordered compact form of a sketch
abbrev pub IsCompactForm : SeededSketch → CompactSketch → Type 0
IsCompactForm t s = IsAnswer hash_key (sketch_value t.sketch) t.sketch.map.seed_hash true s.sketch × HasSketch t.sketch s.sketch

-- the hashes of a sketch were put into an array, each once, in some order; a handle without one is refused with 1, and nothing
-- is written
abbrev pub CopiesHashesOf : Option SeededSketch → (before : List ℕ) → (count_before status : ℕ) → (after : List ℕ) → (count : ℕ) → Type 0
CopiesHashesOf None before count_before status after count = (status ≡ 1) × (after ≡ before) × (count ≡ count_before)
CopiesHashesOf (Some t) before count_before status after count =
    IsPut t.sketch.sequence before status after count × IsListing hash_key t.sketch.map.kept.entries t.sketch.sequence

-- the same of a compact sketch, in its order
abbrev pub CopiesHashes : Option CompactSketch → (before : List ℕ) → (count_before status : ℕ) → (after : List ℕ) → (count : ℕ) → Type 0
CopiesHashes None before count_before status after count = (status ≡ 1) × (after ≡ before) × (count ≡ count_before)
CopiesHashes (Some s) before count_before status after count = IsPut s.sketch.entries before status after count

-- the sketch that bytes begin with, read under a seed
abbrev pub IsReadFrom : (bytes : List ℕ) → (seed : ℕ) → CompactSketch → Type 0
IsReadFrom bytes seed s = Reads bytes (seed_hash seed) s.sketch

-- the refusal of reading: memory, with 3; or bytes that are read as no sketch, with 2
abbrev pub IsReadRefusal : (bytes : List ℕ) → (seed : ℕ) → (status : ℕ) → Type 0
IsReadRefusal bytes seed status = IsUnreadStatus (IsReadable bytes (seed_hash seed)) status

-- the sketch that bytes are, all of them, read under a seed
abbrev pub IsWhole : (bytes : List ℕ) → (seed : ℕ) → CompactSketch → Type 0
IsWhole bytes seed s = IsReadFrom bytes seed s × (image_length bytes ≡ Some (length bytes))

-- the refusal: memory, with 3; or the bytes are no sketch, or not one alone, with 2
abbrev pub IsWholeRefusal : (bytes : List ℕ) → (seed : ℕ) → (status : ℕ) → Type 0
IsWholeRefusal bytes seed status = IsUnreadStatus ((s : CompactSketch) × IsWhole bytes seed s) status

-- the state of the sketch that bytes begin with was written, with status 0; or reading was refused, and nothing is written
abbrev pub ReadsImageState : (bytes : List ℕ) → (seed : ℕ) → (before : State) → (status : ℕ) → (after : State) → Type 0
ReadsImageState bytes seed before status after =
    ((status ≡ 0) × ((s : CompactSketch) × IsReadFrom bytes seed s × (after ≡ compact_state s)))
    ⊎ (IsReadRefusal bytes seed status × (after ≡ before))

-- a call of an operator on a sketch that takes updates: `Does`, on what the sketch shows and lists
abbrev pub OfSketch : {O : Type 0} → (Does : Shown → List ℕ → O → ℕ → O → Type 0) → SeededSketch → (old : O) → (status : ℕ) → (new : O) → Type 0
OfSketch Does t old status new = Does (sketch_shows hash_key t.sketch) t.sketch.sequence old status new

-- .. on a compact sketch
abbrev pub OfCompact : {O : Type 0} → (Does : Shown → List ℕ → O → ℕ → O → Type 0) → CompactSketch → (old : O) → (status : ℕ) → (new : O) → Type 0
OfCompact Does s old status new = Does (shown_of hash_key s.sketch) s.sketch.entries old status new

-- .. on the sketch that bytes begin with, read under the operator's seed; or reading was refused, with 2 or 3, and
-- nothing has changed
abbrev pub OfImage : {O : Type 0}
    → (Does : Shown → List ℕ → O → ℕ → O → Type 0)
    → (seed_in : O → ℕ)
    → (image : List ℕ)
    → (old : O)
    → (status : ℕ)
    → (new : O)
    → Type 0
OfImage Does seed_in image old status new =
    ((s : Compact ℕ) × Reads image (seed_hash (seed_in old)) s × Does (shown_of hash_key s) s.entries old status new)
    ⊎ (IsReadRefusal image (seed_in old) status × (new ≡ old))
