-- Many values at a call, for sketches of sums.
use Rattle.std.specs.Prelude.{◌≡◌, ◌≢◌, ◌⊎◌, ◌+◌, ℕ, true, false, List, [], ◌∷◌, length}
use Rattle.core_slots.specs.declared.entry.TupleEntry.{TupleEntry}
use Rattle.core_state.specs.Updatable.{Updatable}
use Rattle.c_objects.specs.Strings.{are_ends, string_hashes}
use Rattle.c_objects.specs.Sums.{sums_sketch, sums_mode, KeepsSettings, AcceptsValue, RefusesValue}
use Rattle.c_objects.specs.SumsStreams.{GivesValues, GivesNoValues}
use Rattle.c_objects.specs.declared.sums.SeededSums.{SeededSums}
use Rattle.tuple_sketches.specs.declared.numbers.SummaryMode.{SummaryMode}

-- a sketch of sums is as before, and was given nothing
abbrev pub IsAsBefore : (old new : Updatable (TupleEntry ℕ)) → Type 0
IsAsBefore old new = (new.empty ≡ old.empty) × (new.map ≡ old.map) × GivesNoValues old new

-- values, each with its hash
abbrev pub at_hashes : (hashes values : List ℕ) → List (ℕ × ℕ)
at_hashes [] values = []
at_hashes (h ∷ hs) [] = []
at_hashes (h ∷ hs) (v ∷ vs) = (h, v) ∷ at_hashes hs vs

-- values were added at hashes in their order, up to the first that was refused, which left the sketch as it was; the status is
-- that of its refusal, or 0 if none was refused. So many were added
abbrev pub AddsInTurn : SummaryMode
    → (hashes values : List ℕ)
    → (old : Updatable (TupleEntry ℕ))
    → (status : ℕ)
    → (new : Updatable (TupleEntry ℕ))
    → (added : ℕ)
    → Type 0
AddsInTurn mode [] values old status new added = (status ≡ 0) × (added ≡ 0) × IsAsBefore old new
AddsInTurn mode (h ∷ hs) [] old status new added = (status ≡ 0) × (added ≡ 0) × IsAsBefore old new
AddsInTurn mode (h ∷ hs) (v ∷ vs) old status new added =
    ((status ≢ 0) × (added ≡ 0) × RefusesValue mode h v old status × IsAsBefore old new)
    ⊎ ((next : Updatable (TupleEntry ℕ)) × (more : ℕ) × AcceptsValue mode h v old next × AddsInTurn mode hs vs next status new more × (added ≡ 1 + more))

-- values were added at hashes, in their order, and with status 0 the sketch was given them all; or there are more of the one
-- than of the other, which is refused with 1, and none was added
abbrev pub AddsValues : (hashes values : List ℕ) → (added : ℕ) → (old : SeededSums) → (status : ℕ) → (new : SeededSums) → Type 0
AddsValues hashes values added old status new =
    (length hashes ≡ length values → KeepsSettings old new × AddsInTurn (sums_mode old) hashes values (sums_sketch old) status (sums_sketch new) added
    × (status ≡ 0 → GivesValues (sums_mode old) (at_hashes hashes values) (sums_sketch old) (sums_sketch new)))
    × (length hashes ≢ length values → (status ≡ 1) × (new ≡ old) × (added ≡ 0))

-- values were added at strings by their hashes, as `AddsValues` says of those; or memory for the hashes was refused, with 3, or
-- the ends are out of range, with 1, and none was added
abbrev pub AddsAtStrings : (bytes ends values : List ℕ)
    → (added : ℕ)
    → (old : SeededSums)
    → (status : ℕ)
    → (new : SeededSums)
    → Type 0
AddsAtStrings bytes ends values added old status new =
    ((are_ends 0 (length bytes) ends ≡ true) × AddsValues (string_hashes old.seed bytes 0 ends) values added old status new)
    ⊎ ((new ≡ old) × (added ≡ 0) × ((status ≡ 3) ⊎ ((status ≡ 1) × (are_ends 0 (length bytes) ends ≡ false))))
