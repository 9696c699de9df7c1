-- Calls on intersections of tuple sketches of sums, and differences of these.
use Rattle.std.specs.Prelude.{◌≡◌, ◌⊎◌, ℕ, List, [], true, None, Some}
use Rattle.sketch_base.specs.Seed.{seed_hash}
use Rattle.sketch_base.specs.declared.error.ErrorKind.{ErrorKind}
use Rattle.core_compact.specs.CompactState.{shown_of}
use Rattle.core_laws.specs.Shown.{Shown, shown_value}
use Rattle.core_operators.specs.ANotB.{IsDifference}
use Rattle.core_operators.specs.Intersection.{Intersection, new_intersection, intersect_refusal, IsAnswerIfAny}
use Rattle.core_operators.specs.Intersection.{IsMet, IsIntersectError}
use Rattle.core_policies.specs.Summaries.{combined, combine_refused}
use Rattle.core_slots.specs.Entry.{tuple_key}
use Rattle.core_slots.specs.declared.entry.TupleEntry.{TupleEntry}
use Rattle.tuple_sketches.specs.Numbers.{combined_number}
use Rattle.tuple_sketches.specs.declared.numbers.NumberPolicy.{NumberPolicy}
use Rattle.tuple_sketches.specs.declared.numbers.SummaryMode.{SummaryMode}
use Rattle.c_objects.specs.CompactSums.{OfSums}
use Rattle.c_objects.specs.Intersection.{IsNoValue, RefusesDifference, AcceptsDifference}
use Rattle.c_objects.specs.Settings.{valid_mode}
use Rattle.c_objects.specs.Status.{status_of}
use Rattle.c_objects.specs.Sums.{sums_sketch}
use Rattle.c_objects.specs.SumsStreams.{IsSumsIntersectionOf, GivesSumsSample, GivesSumsSampleOf, HasSharedSums, HasLackingSums}
use Rattle.c_objects.specs.declared.compact_sums.CompactSums.{CompactSums}
use Rattle.c_objects.specs.declared.sums.SeededSums.{SeededSums}
use Rattle.c_objects.specs.declared.sums_intersection.SeededSumsIntersection.{SeededSumsIntersection}

-- what contracts see of an intersection
abbrev pub sums_intersection_of : SeededSumsIntersection → Intersection (TupleEntry ℕ) NumberPolicy
sums_intersection_of i = i.intersection.state

-- the mode of an intersection: how it combines the numbers of a hash
abbrev pub sums_intersection_mode : SeededSumsIntersection → SummaryMode
sums_intersection_mode i = (sums_intersection_of i).policy.mode

-- a new intersection of a mode, without a value, and given nothing
abbrev pub IsNewSumsIntersection : SummaryMode → (seed : ℕ) → SeededSumsIntersection → Type 0
IsNewSumsIntersection mode seed i =
    (i.seed ≡ seed)
    × (sums_intersection_of i ≡ new_intersection (seed_hash seed) (record { mode = mode }))
    × IsSumsIntersectionOf mode (sums_intersection_of i) []

-- a new intersection of the mode that a number names
abbrev pub IsNewSumsIntersectionByMode : (mode seed : ℕ) → SeededSumsIntersection → Type 0
IsNewSumsIntersectionByMode mode seed i =
    (valid_mode mode ≡ Some (sums_intersection_mode i)) × IsNewSumsIntersection (sums_intersection_mode i) seed i

-- a sketch that shows this was intersected: the new value has the hashes that both have, each with its two numbers combined as
-- the intersection's mode says, no sum of which is 2^64 or more; the intersection was given one sample more
abbrev pub MeetsSums : Shown → (listing : List (TupleEntry ℕ)) → (old new : Intersection (TupleEntry ℕ) NumberPolicy) → Type 0
MeetsSums shown listing old new =
    (intersect_refusal old shown ≡ None)
    × IsMet tuple_key (combined (combined_number old.policy.mode)) (combine_refused (combined_number old.policy.mode)) old new shown listing
    × (new ≡ record old { result = new.result })
    × GivesSumsSample old.policy.mode (shown_value tuple_key shown listing) old new

-- the error of an intersection, which is unchanged: a sketch of another seed, memory, or two sums of one hash below the lesser
-- theta that are 2^64 or more together
abbrev pub IsSumsMeetError : Shown
    → (listing : List (TupleEntry ℕ))
    → (old new : Intersection (TupleEntry ℕ) NumberPolicy)
    → ErrorKind
    → Type 0
IsSumsMeetError shown listing old new e =
    IsIntersectError tuple_key (combine_refused (combined_number old.policy.mode)) old new shown listing e

-- a sketch was intersected, with status 0; or it was refused, with 1 for another seed, with 3 for memory and with 4 for a sum of
-- 2^64 or more, and nothing has changed
unfoldable pub MeetsShownSums : Shown → List (TupleEntry ℕ) → (old : SeededSumsIntersection) → (status : ℕ) → (new : SeededSumsIntersection) → Type 0
MeetsShownSums shown listing old status new =
    (new.seed ≡ old.seed)
    × (((status ≡ 0) × MeetsSums shown listing (sums_intersection_of old) (sums_intersection_of new))
    ⊎ ((e : ErrorKind) × (status ≡ status_of e) × IsSumsMeetError shown listing (sums_intersection_of old) (sums_intersection_of new) e))

-- a sketch that takes updates was intersected, as `MeetsShownSums` says; with status 0 the intersection was given what the
-- sketch was given
abbrev pub MeetsUpdatableSums : SeededSums → (old : SeededSumsIntersection) → (status : ℕ) → (new : SeededSumsIntersection) → Type 0
MeetsUpdatableSums t old status new =
    OfSums MeetsShownSums t old status new
    × (status ≡ 0 → GivesSumsSampleOf (sums_intersection_mode old) (sums_sketch t) (sums_intersection_of old) (sums_intersection_of new))

-- the intersection's value as an ordered compact sketch, which samples what its sketches share
abbrev pub IsSumsIntersectionResult : SeededSumsIntersection → CompactSums → Type 0
IsSumsIntersectionResult i s =
    IsAnswerIfAny tuple_key (sums_intersection_of i).result (sums_intersection_of i).seed_hash true (Some s.sketch)
    × HasSharedSums (sums_intersection_mode i) (sums_intersection_of i) s.sketch

-- the refusal of the result: 1 before the first sketch, and otherwise 3
abbrev pub IsNoSumsResult : SeededSumsIntersection → (status : ℕ) → Type 0
IsNoSumsResult i status = IsNoValue (sums_intersection_of i).result status

-- the difference of two compact sketches, ordered: the entries of the first whose hashes the second lacks, with their sums, which
-- sample what the first was given at other keys than the second
abbrev pub IsDifferenceOfSums : (first second : CompactSums) → CompactSums → Type 0
IsDifferenceOfSums first second s =
    IsDifference tuple_key (shown_of tuple_key first.sketch) first.sketch.entries (shown_of tuple_key second.sketch) true s.sketch
    × HasLackingSums first.sketch second.sketch s.sketch

-- the refusal of a difference
abbrev pub IsSumsDifferenceRefusal : (seed : ℕ) → (first second : CompactSums) → (status : ℕ) → Type 0
IsSumsDifferenceRefusal seed first second status = RefusesDifference seed (shown_of tuple_key first.sketch) (shown_of tuple_key second.sketch) status

-- a difference is not refused
abbrev pub AreSumsOfSeed : (seed : ℕ) → (first second : CompactSums) → Type 0
AreSumsOfSeed seed first second = AcceptsDifference seed (shown_of tuple_key first.sketch) (shown_of tuple_key second.sketch)
