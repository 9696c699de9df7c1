-- Why bytes are not read as an image, as C has it.
use Rattle.std.specs.Prelude.{ℕ, ◌≡◌, ◌≢◌, List, Option, Some, None}
use Rattle.sketch_base.specs.Seed.{seed_hash}
use Rattle.core_images.specs.declared.flaw.Flaw.TheVariants.{Short, Family, Version, BigEndian, Malformed, Cut, Seed, Theta, Damaged, Longer}
use Rattle.keys_sketches.specs.Header.{flaw_of, image_length, sums_flaw_of, sums_length}
use Rattle.keys_sketches.specs.declared.header.Flaw.{Flaw}
use Rattle.keys_sketches.specs.declared.header.Flaw.TheVariants.{Hexadecimal, Image}
use Rattle.c_objects.specs.declared.flaws.Finding.{Finding}

-- the number of a flaw, which never changes
abbrev pub reason_of : Flaw → ℕ
reason_of Hexadecimal = 1
reason_of (Image Short) = 2
reason_of (Image (Family family)) = 3
reason_of (Image (Version version)) = 4
reason_of (Image BigEndian) = 5
reason_of (Image Seed) = 6
reason_of (Image Cut) = 7
reason_of (Image Longer) = 8
reason_of (Image Damaged) = 9
reason_of (Image Malformed) = 10
reason_of (Image Theta) = 11

-- the byte that a flaw names
abbrev pub found_byte : Flaw → ℕ
found_byte Hexadecimal = 0
found_byte (Image Short) = 0
found_byte (Image (Family family)) = family
found_byte (Image (Version version)) = version
found_byte (Image BigEndian) = 0
found_byte (Image Seed) = 0
found_byte (Image Cut) = 0
found_byte (Image Longer) = 0
found_byte (Image Damaged) = 0
found_byte (Image Malformed) = 0
found_byte (Image Theta) = 0

-- a length that is known, else 0
abbrev pub length_or_none : Option ℕ → ℕ
length_or_none None = 0
length_or_none (Some length) = length

-- what C gets of a flaw and of the length that the preamble says
abbrev pub IsFinding : Flaw → (length : Option ℕ) → Finding → Type 0
IsFinding flaw length found = found ≡ record { flaw = reason_of flaw; found = found_byte flaw; length = length_or_none length }

-- what the preamble says was written, with status 0, for a reader of this seed; or the hash of the seed is 0, with status 1,
-- and nothing was written
abbrev pub WritesFlaw : (flaw_in : ℕ → List ℕ → Flaw)
    → (length_in : List ℕ → Option ℕ)
    → (bytes : List ℕ)
    → (seed : ℕ)
    → (before : Finding)
    → (status : ℕ)
    → (after : Finding)
    → Type 0
WritesFlaw flaw_in length_in bytes seed before status after =
    (seed_hash seed ≢ 0 → (status ≡ 0) × IsFinding (flaw_in (seed_hash seed) bytes) (length_in bytes) after)
    × (seed_hash seed ≡ 0 → (status ≡ 1) × (after ≡ before))

-- why bytes are not the image of one theta sketch of this seed, by their preamble
abbrev pub IsThetaFinding : (bytes : List ℕ) → (seed : ℕ) → Finding → Type 0
IsThetaFinding bytes seed found = IsFinding (flaw_of (seed_hash seed) bytes) (image_length bytes) found

-- why bytes are not the image of one sketch of sums
abbrev pub IsSumsFinding : (bytes : List ℕ) → (seed : ℕ) → Finding → Type 0
IsSumsFinding bytes seed found = IsFinding (sums_flaw_of (seed_hash seed) bytes) (sums_length bytes) found

-- with status 2 what is at fault was written, and with another nothing
abbrev pub FindsIf : (IsFound : Finding → Type 0) → (before : Finding) → (status : ℕ) → (after : Finding) → Type 0
FindsIf IsFound before status after = (status ≡ 2 → IsFound after) × (status ≢ 2 → after ≡ before)

-- what the preamble of an image of a theta sketch says
abbrev pub WritesThetaFlaw : (bytes : List ℕ) → (seed : ℕ) → (before : Finding) → (status : ℕ) → (after : Finding) → Type 0
WritesThetaFlaw = WritesFlaw flaw_of image_length

-- what the preamble of an image of sums says
abbrev pub WritesSumsFlaw : (bytes : List ℕ) → (seed : ℕ) → (before : Finding) → (status : ℕ) → (after : Finding) → Type 0
WritesSumsFlaw = WritesFlaw sums_flaw_of sums_length
