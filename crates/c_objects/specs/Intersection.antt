-- Calls on intersections of theta sketches.
use Rattle.std.specs.Prelude.{◌≡◌, ◌⊎◌, ℕ, List, [], true, false, Option, None, Some}
use Rattle.sketch_base.specs.Seed.{seed_hash}
use Rattle.sketch_base.specs.declared.error.ErrorKind.{ErrorKind}
use Rattle.core_compact.specs.CompactState.{shown_of}
use Rattle.core_laws.specs.Entries.{hash_key, first_hash}
use Rattle.core_laws.specs.Operators.{meet_next}
use Rattle.core_laws.specs.Shown.{Shown, shown_value}
use Rattle.core_laws.specs.Values.{Sketch}
use Rattle.core_operators.specs.ANotB.{IsHashDifference, difference_refusal}
use Rattle.core_operators.specs.Intersection.{new_intersection, seed_refusal, intersect_refusal, IsAnswerIfAny}
use Rattle.core_operators.specs.Intersection.{IsHashIntersectError}
use Rattle.theta_sketches.specs.Streams.{IsIntersectionOf}
use Rattle.c_objects.specs.Settings.{mode_refusal}
use Rattle.c_objects.specs.Status.{status_of, IsRefusal}
use Rattle.c_objects.specs.Streams.{GivesSample, GivesSampleOf, HasShared, HasLacking}
use Rattle.c_objects.specs.Thetas.{OfSketch}
use Rattle.c_objects.specs.declared.compact.CompactSketch.{CompactSketch}
use Rattle.c_objects.specs.declared.intersection.SeededIntersection.{SeededIntersection}
use Rattle.c_objects.specs.declared.theta.SeededSketch.{SeededSketch}

-- a new intersection, without a value, and given nothing
abbrev pub IsNewIntersection : (seed : ℕ) → SeededIntersection → Type 0
IsNewIntersection seed i =
    (i.seed ≡ seed)
    × (i.intersection ≡ new_intersection (seed_hash seed) i.intersection.policy)
    × IsIntersectionOf i.intersection []

-- the refusal of a new intersection: a seed whose hash is 0, or memory
abbrev pub IsSeedRefusal : (seed : ℕ) → (status : ℕ) → Type 0
IsSeedRefusal seed status = IsRefusal (seed_refusal seed) true status

-- the refusal of a new intersection of a mode: a mode that none may have, a seed whose hash is 0, or memory
abbrev pub IsSeedModeRefusal : (mode seed status : ℕ) → Type 0
IsSeedModeRefusal mode seed status = IsRefusal (mode_refusal mode (seed_refusal seed)) true status

-- a sketch that shows this was intersected, with status 0; the intersection was given one sample more
abbrev pub Meets : Shown → (listing : List ℕ) → (old new : SeededIntersection) → Type 0
Meets shown listing old new =
    (intersect_refusal old.intersection shown ≡ None)
    × (new.intersection.result ≡ Some (meet_next hash_key first_hash old.intersection.result (shown_value hash_key shown listing)))
    × (new.intersection ≡ record old.intersection { result = new.intersection.result })
    × GivesSample (shown_value hash_key shown listing) old.intersection new.intersection

-- a sketch was intersected; or it was refused, with 1 for another seed and with 3 for memory, and nothing has changed
abbrev pub MeetsShown : Shown → (listing : List ℕ) → (old : SeededIntersection) → (status : ℕ) → (new : SeededIntersection) → Type 0
MeetsShown shown listing old status new =
    (new.seed ≡ old.seed)
    × (((status ≡ 0) × Meets shown listing old new)
    ⊎ ((e : ErrorKind)
    × (status ≡ status_of e)
    × IsHashIntersectError old.intersection new.intersection shown e))

-- a sketch that takes updates was intersected, as `MeetsShown` says; with status 0 the intersection was given what the sketch
-- was given
abbrev pub MeetsUpdatable : SeededSketch → (old : SeededIntersection) → (status : ℕ) → (new : SeededIntersection) → Type 0
MeetsUpdatable t old status new =
    OfSketch MeetsShown t old status new × (status ≡ 0 → GivesSampleOf t.sketch old.intersection new.intersection)

-- the intersection's value as an ordered compact sketch, which samples what the streams share that the intersection was given
abbrev pub IsIntersectionResult : SeededIntersection → CompactSketch → Type 0
IsIntersectionResult i s =
    IsAnswerIfAny hash_key i.intersection.result i.intersection.seed_hash true (Some s.sketch) × HasShared i.intersection s.sketch

-- the refusal of the result of an intersection that has this value: 1 if it has none, before its first sketch, and otherwise 3
abbrev pub IsNoValue : {X : Type 0} → Option (Sketch X) → (status : ℕ) → Type 0
IsNoValue value status = ((status ≡ 1) × (value ≡ None)) ⊎ (status ≡ 3)

abbrev pub IsNoResult : SeededIntersection → (status : ℕ) → Type 0
IsNoResult i status = IsNoValue i.intersection.result status

-- the difference of two compact sketches, ordered, which samples what the stream of the first has and that of the second lacks
abbrev pub IsDifferenceOf : (first second : CompactSketch) → CompactSketch → Type 0
IsDifferenceOf first second s =
    IsHashDifference (shown_of hash_key first.sketch) first.sketch.entries (shown_of hash_key second.sketch)
    second.sketch.entries true s.sketch
    × HasLacking first.sketch second.sketch s.sketch

-- the refusal of a difference of sketches that show this: a seed whose hash is 0, sketches of another seed, or memory
abbrev pub RefusesDifference : (seed : ℕ) → (first second : Shown) → (status : ℕ) → Type 0
RefusesDifference seed first second status =
    IsRefusal (seed_refusal seed) false status ⊎ IsRefusal (difference_refusal (seed_hash seed) first second) true status

-- a difference of sketches that show this is not refused: the hash of its seed isn't 0, and the first sketch, if it isn't empty, is
-- of this seed, and so is a second that isn't empty
abbrev pub AcceptsDifference : (seed : ℕ) → (first second : Shown) → Type 0
AcceptsDifference seed first second = (seed_refusal seed ≡ None) × (difference_refusal (seed_hash seed) first second ≡ None)

-- the same for compact sketches
abbrev pub IsDifferenceRefusal : (seed : ℕ) → (first second : CompactSketch) → (status : ℕ) → Type 0
IsDifferenceRefusal seed first second status = RefusesDifference seed (shown_of hash_key first.sketch) (shown_of hash_key second.sketch) status

abbrev pub AreOfSeed : (seed : ℕ) → (first second : CompactSketch) → Type 0
AreOfSeed seed first second = AcceptsDifference seed (shown_of hash_key first.sketch) (shown_of hash_key second.sketch)
