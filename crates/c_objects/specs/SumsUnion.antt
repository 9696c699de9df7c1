-- Calls on unions of tuple sketches of sums.
use Rattle.std.specs.Prelude.{◌≡◌, ◌≢◌, ◌⊎◌, ◌^◌, ℕ, List, true, not, Some, None}
use Rattle.std.specs.Int.{w64, to_le_bytes}
use Rattle.sketch_base.specs.Seed.{seed_hash}
use Rattle.sketch_base.specs.declared.error.ErrorKind.{ErrorKind}
use Rattle.core_compact.specs.CompactState.{Compact, IsAnswer}
use Rattle.core_laws.specs.Shown.{Shown, shown_value}
use Rattle.core_laws.specs.Values.{cut_value}
use Rattle.core_operators.specs.Union.{Union, empty_union, union_value, update_refusal, failure, JoinsSummaries}
use Rattle.core_operators.specs.Union.{UnitesSummaries, IsUpdateError, lower_refusal, lower_allocates, lowered}
use Rattle.core_policies.specs.Summaries.{combine_refused}
use Rattle.core_slots.specs.Entry.{tuple_key}
use Rattle.core_slots.specs.declared.entry.TupleEntry.{TupleEntry}
use Rattle.tuple_sketches.specs.Image.{written}
use Rattle.tuple_sketches.specs.Numbers.{combined_number}
use Rattle.tuple_sketches.specs.Sketch.{union_state}
use Rattle.tuple_sketches.specs.declared.numbers.NumberPolicy.{NumberPolicy}
use Rattle.tuple_sketches.specs.declared.numbers.SummaryMode.{SummaryMode}
use Rattle.c_objects.specs.CompactSums.{OfSums}
use Rattle.c_objects.specs.Settings.{valid_mode}
use Rattle.c_objects.specs.Status.{status_of, IsRefusal}
use Rattle.c_objects.specs.Sums.{sums_sketch}
use Rattle.c_objects.specs.SumsStreams.{IsSumsUnionOfNone, GivesSumsPart, GivesSums, GivesLoweredSums, HasSumsUnion, IsSumsReadAs}
use Rattle.c_objects.specs.declared.compact_sums.CompactSums.{CompactSums}
use Rattle.c_objects.specs.declared.sums.SeededSums.{SeededSums}
use Rattle.c_objects.specs.declared.sums_union.SeededSumsUnion.{SeededSumsUnion}

-- what contracts see of a union
abbrev pub sums_union_of : SeededSumsUnion → Union (TupleEntry ℕ) NumberPolicy
sums_union_of u = union_state u.union

-- the mode of a union: how it combines the numbers of a hash
abbrev pub sums_union_mode : SeededSumsUnion → SummaryMode
sums_union_mode u = (sums_union_of u).policy.mode

-- a new union of a mode, without sketches, and given nothing
abbrev pub IsNewSumsUnion : SummaryMode → (lg_k start seed : ℕ) → SeededSumsUnion → Type 0
IsNewSumsUnion mode lg_k start seed u =
    (u.seed ≡ seed)
    × (sums_union_of u ≡ empty_union lg_k start (seed_hash seed) (record { mode = mode }))
    × IsSumsUnionOfNone lg_k start (sums_union_of u)

-- a new union of the mode that a number names
abbrev pub IsNewSumsUnionByMode : (mode lg_k start seed : ℕ) → SeededSumsUnion → Type 0
IsNewSumsUnionByMode mode lg_k start seed u = (valid_mode mode ≡ Some (sums_union_mode u)) × IsNewSumsUnion (sums_union_mode u) lg_k start seed u

-- a sketch that shows this was merged: the union's value is united with the sketch's, in which the numbers of one hash are
-- combined as the union's mode says, and an Empty sketch changes nothing; the union was given one part more
abbrev pub MergesSums : Shown → (listing : List (TupleEntry ℕ)) → (old new : Union (TupleEntry ℕ) NumberPolicy) → Type 0
MergesSums shown listing old new =
    (update_refusal old shown ≡ None)
    × (shown.empty ≡ true → new ≡ old)
    × UnitesSummaries (combined_number old.policy.mode) old new shown listing
    × JoinsSummaries (combined_number old.policy.mode) old new shown listing
    × (new ≡ record old { empty = new.empty; content = new.content })
    × GivesSumsPart old.policy.mode (shown_value tuple_key shown listing) old new

-- the error of a merge: the union refused the sketch and is unchanged; or memory was refused, or two sums of one hash are 2^64
-- or more together, and the union has failed
abbrev pub IsSumsMergeError : Shown → (listing : List (TupleEntry ℕ)) → (old new : Union (TupleEntry ℕ) NumberPolicy) → ErrorKind → Type 0
IsSumsMergeError shown listing old new e =
    IsUpdateError tuple_key (combine_refused (combined_number old.policy.mode)) old new shown listing e

-- a sketch was merged, with status 0; or the union refused it, with 1 for another seed and with 5 if it has failed, and is
-- unchanged; or it has failed now, with 3 for memory and with 4 for a sum of 2^64 or more
unfoldable pub AddsShownSums : Shown → (listing : List (TupleEntry ℕ)) → (old : SeededSumsUnion) → (status : ℕ) → (new : SeededSumsUnion) → Type 0
AddsShownSums shown listing old status new =
    (new.seed ≡ old.seed)
    × (((status ≡ 0) × MergesSums shown listing (sums_union_of old) (sums_union_of new))
    ⊎ ((e : ErrorKind) × (status ≡ status_of e) × IsSumsMergeError shown listing (sums_union_of old) (sums_union_of new) e))

-- a sketch that takes updates was merged, as `AddsShownSums` says; with status 0 the union was given what the sketch was given
abbrev pub AddsUpdatableSums : SeededSums → (old : SeededSumsUnion) → (status : ℕ) → (new : SeededSumsUnion) → Type 0
AddsUpdatableSums t old status new =
    OfSums AddsShownSums t old status new
    × (status ≡ 0 → GivesSums (sums_union_mode old) (sums_sketch t) (sums_union_of old) (sums_union_of new))

-- an ordered compact sketch of the union's value, with the least hashes of what the union was given and their numbers; the
-- union hasn't failed
abbrev pub IsValueOfSums : SeededSumsUnion → Compact (TupleEntry ℕ) → Type 0
IsValueOfSums u s =
    (failure (sums_union_of u).failed ≡ None)
    × IsAnswer tuple_key (union_value tuple_key (sums_union_of u)) (sums_union_of u).seed_hash true s
    × HasSumsUnion (sums_union_of u) s

-- the union's value as an ordered compact sketch
abbrev pub IsSumsUnionResult : SeededSumsUnion → CompactSums → Type 0
IsSumsUnionResult u s = IsValueOfSums u s.sketch

-- the image of the union's value, ordered, which is read as that sketch, and as no other
abbrev pub IsSumsUnionImage : SeededSumsUnion → List ℕ → Type 0
IsSumsUnionImage u image =
    (s : Compact (TupleEntry ℕ)) × (image ≡ written (λ sum. to_le_bytes w64 sum) s) × IsValueOfSums u s × IsSumsReadAs image s

-- the refusal of the result: 5 if the union has failed, and otherwise 3
abbrev pub IsSumsResultRefusal : SeededSumsUnion → (status : ℕ) → Type 0
IsSumsResultRefusal u status = IsRefusal (failure (sums_union_of u).failed) (not (sums_union_of u).failed) status

-- the union was lowered to 2^lg_k nominal entries, with status 0: its value is cut to those, and it was given nothing; or it
-- refused, with 5 if it has failed, with 1 unless lg_k is from 4 to its own, and with 3, and is unchanged
abbrev pub LowersSumsUnion : (lg_k : ℕ) → (old : SeededSumsUnion) → (status : ℕ) → (new : SeededSumsUnion) → Type 0
LowersSumsUnion lg_k old status new =
    let before = sums_union_of old in let after = sums_union_of new in
    (new.seed ≡ old.seed)
    × (status ≡ 0 → (lower_refusal before lg_k ≡ None)
    × (after ≡ lowered tuple_key lg_k before)
    × (union_value tuple_key after ≡ cut_value tuple_key (2 ^ lg_k) (union_value tuple_key before))
    × GivesLoweredSums lg_k before after)
    × (status ≢ 0 → IsRefusal (lower_refusal before lg_k) (lower_allocates before lg_k) status × (after ≡ before))

-- the union is as when it was new
abbrev pub ResetsSumsUnion : (old : SeededSumsUnion) → (status : ℕ) → (new : SeededSumsUnion) → Type 0
ResetsSumsUnion old status new =
    (status ≡ 0)
    × (new.seed ≡ old.seed)
    × (sums_union_of new ≡ empty_union (sums_union_of old).lg_k (sums_union_of old).start (sums_union_of old).seed_hash (sums_union_of old).policy)
    × IsSumsUnionOfNone (sums_union_of old).lg_k (sums_union_of old).start (sums_union_of new)
