-- Intersections of sketches, one after another, and when they and differences are refused.
use Rattle.std.specs.Prelude.{ℕ, ◌==◌, ◌||◌, Option, Some, None, List, [], ◌∷◌, if◌then◌else◌}
use Rattle.sketch_base.specs.Seed.{seed_hash}
use Rattle.sketch_base.specs.declared.error.ErrorKind.{ErrorKind}
use Rattle.sketch_base.specs.declared.error.ErrorKind.TheVariants.{InvalidArgument}
use Rattle.core_compact.specs.CompactState.{Compact, compact_value, shown_of}
use Rattle.core_operators.specs.ANotB.{difference_refusal}
use Rattle.core_operators.specs.Intersection.{is_settled, seed_refusal}
use Rattle.core_laws.specs.Entries.{hash_key, first_hash}
use Rattle.core_laws.specs.Operators.{meet, meet_next}
use Rattle.core_laws.specs.Values.{Sketch, Empty}

-- the value of an intersection: Empty before its first sketch
abbrev pub result_or_empty : Option (Sketch ℕ) → Sketch ℕ
result_or_empty None = Empty
result_or_empty (Some v) = v

-- the result of an intersection after these values
abbrev pub met_of : List (Sketch ℕ) → Option (Sketch ℕ)
met_of [] = None
met_of (v ∷ vs) = Some (meet hash_key first_hash (v ∷ vs))

-- the refusal of a sketch after an intersection with this result: it is of another seed, unless either is Empty
abbrev pub one_refusal : (seed : ℕ) → Option (Sketch ℕ) → Compact ℕ → Option ErrorKind
one_refusal seed so_far s = if is_settled so_far || s.empty then None else if seed_hash seed == s.seed_hash then None else Some InvalidArgument

-- the first refusal, if there is one
abbrev pub first_refusal : Option ErrorKind → Option ErrorKind → Option ErrorKind
first_refusal (Some kind) later = Some kind
first_refusal None later = later

-- the refusal of sketches that are intersected one after another
abbrev pub meet_refusal : (seed : ℕ) → Option (Sketch ℕ) → List (Compact ℕ) → Option ErrorKind
meet_refusal seed so_far [] = None
meet_refusal seed so_far (s ∷ sketches) =
    first_refusal (one_refusal seed so_far s)
    (meet_refusal seed (Some (meet_next hash_key first_hash so_far (compact_value hash_key s))) sketches)

-- the refusal of an intersection: of its seed, or of one of its sketches
abbrev pub refusal_of_intersection : (seed : ℕ) → List (Compact ℕ) → Option ErrorKind
refusal_of_intersection seed sketches = first_refusal (seed_refusal seed) (meet_refusal seed None sketches)

-- the refusal of a difference: of its seed, or of one of its sketches
abbrev pub refusal_of_difference : (seed : ℕ) → (first second : Compact ℕ) → Option ErrorKind
refusal_of_difference seed first second =
    first_refusal (seed_refusal seed)
    (difference_refusal (seed_hash seed) (shown_of hash_key first) (shown_of hash_key second))
