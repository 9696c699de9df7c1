-- What the preamble of an image says of files: the image's length, its number of entries, and why bytes are not one image.
use Rattle.std.specs.Prelude.{ℕ, ◌≡◌, ◌&&◌, nat_le, Bool, ⊤, List, length, take, Option, if◌then◌else◌}
use Rattle.core_compact.specs.CompactState.{Compact}
use Rattle.core_images.specs.Head.{theta_head, tuple_head, length_of, count_of, flaw_of_image}
use Rattle.core_images.specs.declared.flaw.Flaw.{Flaw as ImageFlaw}
use Rattle.core_images.specs.declared.flaw.Flaw.TheVariants.{Short, Family, Version, BigEndian, Malformed, Cut, Seed, Theta, Damaged, Longer}
use Rattle.theta_sketches.specs.Image.{BeginsWith}
use Rattle.keys_sketches.specs.Hex.{are_digits}
use Rattle.keys_sketches.specs.declared.header.Flaw.{Flaw}
use Rattle.keys_sketches.specs.declared.header.Flaw.TheVariants.{Hexadecimal, Image}

-- the length of the image that the bytes begin with, by its preamble, and the number of its hashes
abbrev pub image_length : List ℕ → Option ℕ
image_length bytes = length_of (theta_head bytes)

abbrev pub entry_count : List ℕ → ℕ
entry_count bytes = count_of (theta_head bytes)

-- the bytes begin with an image of the length by its preamble, which alone is read as the sketch
abbrev pub BeginsWithImage : List ℕ → (h : ℕ) → Compact ℕ → Type 0
BeginsWithImage bytes h s = (size : ℕ) × BeginsWith bytes h size s

-- whether bytes begin with 16 hexadecimal digits
abbrev pub is_hexadecimal : List ℕ → Bool
is_hexadecimal bytes = nat_le 16 (length bytes) && are_digits (take 16 bytes)

-- the flaw of bytes in a file, if that of their image is this one
abbrev pub file_flaw : ImageFlaw → List ℕ → Flaw
file_flaw flaw bytes = if is_hexadecimal bytes then Hexadecimal else Image flaw

-- the flaw of bytes that are not one image, for a reader of this seed hash
abbrev pub flaw_of : (h : ℕ) → List ℕ → Flaw
flaw_of h bytes = file_flaw (flaw_of_image bytes h (theta_head bytes)) bytes

-- the same of images of sums, whose entries have eight bytes for the hash and eight for the sum
abbrev pub sums_length : List ℕ → Option ℕ
sums_length bytes = length_of (tuple_head 16 bytes)

abbrev pub sums_count : List ℕ → ℕ
sums_count bytes = count_of (tuple_head 16 bytes)

abbrev pub sums_flaw_of : (h : ℕ) → List ℕ → Flaw
sums_flaw_of h bytes = file_flaw (flaw_of_image bytes h (tuple_head 16 bytes)) bytes

-- an image may be read in spite of this flaw: it is returned also for bytes without one, or with other bytes behind
abbrev pub MayBeReadImage : ImageFlaw → Type 0
MayBeReadImage Short = ⊥
MayBeReadImage (Family family) = ⊥
MayBeReadImage (Version version) = ⊥
MayBeReadImage BigEndian = ⊤
MayBeReadImage Malformed = ⊥
MayBeReadImage Cut = ⊥
MayBeReadImage Seed = ⊥
MayBeReadImage Theta = ⊥
MayBeReadImage Damaged = ⊤
MayBeReadImage Longer = ⊤

abbrev pub MayBeRead : Flaw → Type 0
MayBeRead Hexadecimal = ⊥
MayBeRead (Image flaw) = MayBeReadImage flaw
