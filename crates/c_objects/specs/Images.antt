-- Calls on images alone.
use Rattle.std.specs.Prelude.{◌≡◌, ◌≢◌, ◌⊎◌, ℕ, List, true, false, Some, None}
use Rattle.sketch_base.specs.Seed.{seed_hash}
use Rattle.sketch_base.specs.declared.error.ErrorKind.{ErrorKind}
use Rattle.sketch_base.specs.declared.error.ErrorKind.TheVariants.{InvalidArgument, OutOfMemory}
use Rattle.core_compact.specs.CompactState.{IsAnswer, compact_value}
use Rattle.core_laws.specs.Entries.{hash_key, first_hash}
use Rattle.core_laws.specs.Operators.{meet_next}
use Rattle.core_laws.specs.Values.{Sketch}
use Rattle.theta_sketches.specs.Image.{Reads}
use Rattle.c_objects.specs.Buffer.{Writes}
use Rattle.c_objects.specs.Intersection.{IsDifferenceOf}
use Rattle.c_objects.specs.Streams.{HasCommon}
use Rattle.c_objects.specs.Thetas.{IsCompactImage, IsReadRefusal}
use Rattle.c_objects.specs.declared.compact.CompactSketch.{CompactSketch}

-- the value that two sketches have in common
abbrev pub common_value : Sketch ℕ → Sketch ℕ → Sketch ℕ
common_value a b = meet_next hash_key first_hash (Some (meet_next hash_key first_hash None a)) b

-- the intersection of two compact sketches, ordered, which samples what their streams share
abbrev pub IsIntersectionOf : (seed : ℕ) → (first second : CompactSketch) → CompactSketch → Type 0
IsIntersectionOf seed first second s =
    IsAnswer hash_key (common_value (compact_value hash_key first.sketch) (compact_value hash_key second.sketch))
    (seed_hash seed) true s.sketch
    × HasCommon first.sketch second.sketch s.sketch

-- a sketch that isn't empty is of another seed
abbrev pub IsOfAnotherSeed : (seed : ℕ) → CompactSketch → Type 0
IsOfAnotherSeed seed s = (s.sketch.empty ≡ false) × (s.sketch.seed_hash ≢ seed_hash seed)

-- the refusal of the intersection of two sketches: memory; or the hash of the seed is 0, or one of them is of another seed
abbrev pub IsIntersectionRefusal : (seed : ℕ) → (first second : CompactSketch) → ErrorKind → Type 0
IsIntersectionRefusal seed first second e =
    (e ≡ OutOfMemory) ⊎ ((e ≡ InvalidArgument) × ((seed_hash seed ≡ 0) ⊎ (IsOfAnotherSeed seed first ⊎ IsOfAnotherSeed seed second)))

-- the image of the result of an operation on the sketches that two images begin with, which is read as this result, and as no
-- other
abbrev pub IsImageOfBoth : (IsResult : CompactSketch → CompactSketch → CompactSketch → Type 0)
    → (seed : ℕ)
    → (first second : List ℕ)
    → (image : List ℕ)
    → Type 0
IsImageOfBoth IsResult seed first second image =
    (a : CompactSketch)
    × (b : CompactSketch)
    × (s : CompactSketch)
    × Reads first (seed_hash seed) a.sketch
    × Reads second (seed_hash seed) b.sketch
    × IsResult a b s
    × IsCompactImage s image

-- the refusal of an operation on two images: one of them is read as no sketch of this seed, with 2, or memory, with 3
abbrev pub IsRefusalOfEither : (seed : ℕ) → (first second : List ℕ) → (status : ℕ) → Type 0
IsRefusalOfEither seed first second status = IsReadRefusal first seed status ⊎ IsReadRefusal second seed status

-- the image of the intersection of the sketches that two images begin with was put into a buffer; or the call was refused
abbrev pub WritesIntersection : (seed : ℕ) → (first second before : List ℕ) → (count_before status : ℕ) → (after : List ℕ) → (count : ℕ) → Type 0
WritesIntersection seed first second before count_before status after count =
    Writes (IsImageOfBoth (IsIntersectionOf seed) seed first second) (IsRefusalOfEither seed first second) before count_before status after count

-- the image of their difference was put into a buffer; or the call was refused
abbrev pub WritesDifference : (seed : ℕ) → (first second before : List ℕ) → (count_before status : ℕ) → (after : List ℕ) → (count : ℕ) → Type 0
WritesDifference seed first second before count_before status after count =
    Writes (IsImageOfBoth IsDifferenceOf seed first second) (IsRefusalOfEither seed first second) before count_before status after count
