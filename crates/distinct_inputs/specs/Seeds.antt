-- Sketches of one seed.
use Rattle.std.specs.Prelude.{ℕ, ◌≡◌, ⊤, List, Option}
use Rattle.std.specs.List.{AllByRecursion}
use Rattle.sketch_base.specs.Seed.{seed_hash}
use Rattle.core_compact.specs.CompactState.{Compact}
use Rattle.distinct_arguments.specs.Settings.{SeedValue, seed_number, seed_file}
use Rattle.distinct_arguments.specs.Words.{seed_of}
use Rattle.distinct_inputs.specs.Images.{trimmed}

-- all are of this seed
abbrev pub AreSeeded : {X : Type 0} → (seed : ℕ) → List (Compact X) → Type 0
AreSeeded seed sketches = AllByRecursion (λ s. s.seed_hash ≡ seed_hash seed) sketches

-- the seed that the bytes of a seed file spell: without the blanks at both ends they are decimal digits alone, of a number
-- below 2^64 whose seed hash isn't 0
abbrev pub seed_in : (bytes : List ℕ) → Option ℕ
seed_in bytes = seed_of (trimmed bytes)

-- the seed that an option names; that of a file, whose bytes no contract knows, can be any
abbrev pub IsSeedOf : SeedValue → (seed : ℕ) → Type 0
IsSeedOf (seed_number n) seed = seed ≡ n
IsSeedOf (seed_file name) seed = ⊤
