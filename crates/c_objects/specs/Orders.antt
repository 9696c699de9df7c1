-- Compact forms, results and differences in an order of choice: the ordered one if that is asked for; otherwise one of the same
-- value, which lists the same entries, each once, in any order.
use Rattle.std.specs.Prelude.{◌≡◌, ◌^◌, ℕ, Bool, List, true, false, None, Some}
use Rattle.core_compact.specs.CompactState.{Compact, IsAnswer, shown_of}
use Rattle.core_laws.specs.Entries.{hash_key}
use Rattle.core_operators.specs.ANotB.{IsHashDifference, IsDifference}
use Rattle.core_operators.specs.Intersection.{IsAnswerIfAny}
use Rattle.core_operators.specs.Union.{Union, union_value, failure}
use Rattle.core_slots.specs.Entry.{tuple_key}
use Rattle.core_state.specs.Updatable.{Updatable, sketch_value, sketch_shows}
use Rattle.theta_sketches.specs.Streams.{value_of, IsPartOf, IsSketchOf, IsUnionOf}
use Rattle.c_objects.specs.Intersection.{IsIntersectionResult, IsDifferenceOf, RefusesDifference, AcceptsDifference}
use Rattle.c_objects.specs.Sums.{sums_sketch, IsCompactFormOfSums}
use Rattle.c_objects.specs.SumsIntersection.{sums_intersection_of, IsSumsIntersectionResult, IsDifferenceOfSums}
use Rattle.c_objects.specs.SumsUnion.{sums_union_of, IsSumsUnionResult}
use Rattle.c_objects.specs.Thetas.{IsCompactForm}
use Rattle.c_objects.specs.Union.{IsUnionResult}
use Rattle.c_objects.specs.declared.compact.CompactSketch.{CompactSketch}
use Rattle.c_objects.specs.declared.compact_sums.CompactSums.{CompactSums}
use Rattle.c_objects.specs.declared.intersection.SeededIntersection.{SeededIntersection}
use Rattle.c_objects.specs.declared.sums.SeededSums.{SeededSums}
use Rattle.c_objects.specs.declared.sums_intersection.SeededSumsIntersection.{SeededSumsIntersection}
use Rattle.c_objects.specs.declared.sums_union.SeededSumsUnion.{SeededSumsUnion}
use Rattle.c_objects.specs.declared.theta.SeededSketch.{SeededSketch}
use Rattle.c_objects.specs.declared.union.SeededUnion.{SeededUnion}

-- a compact form is a part of the sketch's stream
abbrev pub IsPartOfSketch : (s : Updatable ℕ) → (form : Compact ℕ) → Type 0
IsPartOfSketch s form =
    (lg_k start seed : ℕ) (hashes : List ℕ) → IsSketchOf lg_k start seed s hashes → IsPartOf (2 ^ lg_k) start (value_of form) hashes

-- the result of a union is a part of the union's stream
abbrev pub IsPartOfUnion : {P : Type 0} → (u : Union ℕ P) → (result : Compact ℕ) → Type 0
IsPartOfUnion u result = (lg_k k start : ℕ) (hashes : List ℕ) → IsUnionOf lg_k k start u hashes → IsPartOf k start (value_of result) hashes

-- the compact form of a theta sketch
abbrev pub IsCompactFormIn : (ordered : Bool) → SeededSketch → CompactSketch → Type 0
IsCompactFormIn true t s = IsCompactForm t s
IsCompactFormIn false t s =
    IsAnswer hash_key (sketch_value t.sketch) t.sketch.map.seed_hash false s.sketch × IsPartOfSketch t.sketch s.sketch

-- the value of a union, which hasn't failed
abbrev pub IsUnionResultIn : (ordered : Bool) → SeededUnion → CompactSketch → Type 0
IsUnionResultIn true u s = IsUnionResult u s
IsUnionResultIn false u s =
    (failure u.union.failed ≡ None)
    × IsAnswer hash_key (union_value hash_key u.union) u.union.seed_hash false s.sketch
    × IsPartOfUnion u.union s.sketch

-- the value of an intersection
abbrev pub IsIntersectionResultIn : (ordered : Bool) → SeededIntersection → CompactSketch → Type 0
IsIntersectionResultIn true i s = IsIntersectionResult i s
IsIntersectionResultIn false i s = IsAnswerIfAny hash_key i.intersection.result i.intersection.seed_hash false (Some s.sketch)

-- the difference of two compact sketches
abbrev pub IsDifferenceIn : (ordered : Bool) → (first second : CompactSketch) → CompactSketch → Type 0
IsDifferenceIn true first second s = IsDifferenceOf first second s
IsDifferenceIn false first second s =
    IsHashDifference (shown_of hash_key first.sketch) first.sketch.entries (shown_of hash_key second.sketch)
    second.sketch.entries false s.sketch

-- the difference of two sketches that take updates
abbrev pub IsDifferenceOfSketches : (ordered : Bool) → (first second : SeededSketch) → CompactSketch → Type 0
IsDifferenceOfSketches ordered first second s =
    IsHashDifference (sketch_shows hash_key first.sketch) first.sketch.sequence (sketch_shows hash_key second.sketch)
    second.sketch.sequence ordered s.sketch

-- it is refused, and it is not
abbrev pub IsSketchDifferenceRefusal : (seed : ℕ) → (first second : SeededSketch) → (status : ℕ) → Type 0
IsSketchDifferenceRefusal seed first second status =
    RefusesDifference seed (sketch_shows hash_key first.sketch) (sketch_shows hash_key second.sketch) status

abbrev pub AreSketchesOfSeed : (seed : ℕ) → (first second : SeededSketch) → Type 0
AreSketchesOfSeed seed first second =
    AcceptsDifference seed (sketch_shows hash_key first.sketch) (sketch_shows hash_key second.sketch)

-- the compact form of a tuple sketch of sums
abbrev pub IsCompactFormOfSumsIn : (ordered : Bool) → SeededSums → CompactSums → Type 0
IsCompactFormOfSumsIn true t s = IsCompactFormOfSums t s
IsCompactFormOfSumsIn false t s = IsAnswer tuple_key (sketch_value (sums_sketch t)) (sums_sketch t).map.seed_hash false s.sketch

-- the value of a union of sums, which hasn't failed
abbrev pub IsSumsUnionResultIn : (ordered : Bool) → SeededSumsUnion → CompactSums → Type 0
IsSumsUnionResultIn true u s = IsSumsUnionResult u s
IsSumsUnionResultIn false u s =
    (failure (sums_union_of u).failed ≡ None)
    × IsAnswer tuple_key (union_value tuple_key (sums_union_of u)) (sums_union_of u).seed_hash false s.sketch

-- the value of an intersection of sums
abbrev pub IsSumsIntersectionResultIn : (ordered : Bool) → SeededSumsIntersection → CompactSums → Type 0
IsSumsIntersectionResultIn true i s = IsSumsIntersectionResult i s
IsSumsIntersectionResultIn false i s =
    IsAnswerIfAny tuple_key (sums_intersection_of i).result (sums_intersection_of i).seed_hash false (Some s.sketch)

-- the difference of two compact sketches of sums: the entries of the first whose hashes the second lacks, with their sums
abbrev pub IsDifferenceOfSumsIn : (ordered : Bool) → (first second : CompactSums) → CompactSums → Type 0
IsDifferenceOfSumsIn true first second s = IsDifferenceOfSums first second s
IsDifferenceOfSumsIn false first second s =
    IsDifference tuple_key (shown_of tuple_key first.sketch) first.sketch.entries (shown_of tuple_key second.sketch) false
    s.sketch

-- the difference of two sketches of sums that take updates
abbrev pub IsDifferenceOfSumsSketches : (ordered : Bool) → (first second : SeededSums) → CompactSums → Type 0
IsDifferenceOfSumsSketches ordered first second s =
    IsDifference tuple_key (sketch_shows tuple_key (sums_sketch first)) (sums_sketch first).sequence
    (sketch_shows tuple_key (sums_sketch second)) ordered s.sketch

-- it is refused, and it is not
abbrev pub IsSumsSketchDifferenceRefusal : (seed : ℕ) → (first second : SeededSums) → (status : ℕ) → Type 0
IsSumsSketchDifferenceRefusal seed first second status =
    RefusesDifference seed (sketch_shows tuple_key (sums_sketch first)) (sketch_shows tuple_key (sums_sketch second)) status

abbrev pub AreSumsSketchesOfSeed : (seed : ℕ) → (first second : SeededSums) → Type 0
AreSumsSketchesOfSeed seed first second =
    AcceptsDifference seed (sketch_shows tuple_key (sums_sketch first)) (sketch_shows tuple_key (sums_sketch second))
