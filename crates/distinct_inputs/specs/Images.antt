-- The images in files, one after another.
use Rattle.std.specs.Prelude.{ℕ, ◌≡◌, ◌≤◌, ◌==◌, ◌+◌, ◌-◌, ◌^◌, min, nat_lt, ⊤, Bool, true, false, List, [], ◌∷◌}
use Rattle.std.specs.Prelude.{◌++◌, length, map, take, drop, unwrap_or, Option, Some, None, IfSome, if◌then◌else◌}
use Rattle.std.specs.Option.{option_map, option_map_or}
use Rattle.std.specs.Io.Buffered.{reader_remaining}
use Rattle.std.specs.declared.io.buffered.BufReader.{BufReader}
use Rattle.std.specs.List.{onto_first, prefix_len, suffix_len}
use Rattle.std.specs.Char.{is_ascii_whitespace}
use Rattle.sketch_base.specs.Seed.{seed_hash}
use Rattle.keys_sketches.specs.Hex.{hex_of, bytes_of_hex}
use Rattle.keys_sketches.specs.Header.{image_length, entry_count, flaw_of, sums_length, sums_count, sums_flaw_of}
use Rattle.keys_sketches.specs.Refusals.{IsNoImage, HasFault}
use Rattle.keys_sketches.specs.Sources.{GivesNext}
use Rattle.keys_sums.specs.Unions.{AreNoSums}
use Rattle.keys_sketches.specs.declared.header.Flaw.{Flaw}
use Rattle.distinct_inputs.specs.declared.images.Images.{Images}
use Rattle.core_compact.specs.CompactState.{Compact}
use Rattle.theta_sketches.specs.Image.{Reads}

-- the length of the image that bytes begin: of a sketch of sums, or of a theta sketch
abbrev pub length_of : (sums : Bool) → List ℕ → Option ℕ
length_of sums bytes = if sums then sums_length bytes else image_length bytes

-- whether something is behind the image that bytes begin, if they begin one
abbrev pub is_followed : (sums : Bool) → List ℕ → Bool
is_followed sums bytes = option_map_or (λ size. nat_lt size (length bytes)) (length_of sums bytes) false

-- The bytes of an image with nothing behind it. Bytes with something behind an image give no bytes, which can't be read as a sketch.
abbrev pub only_image : (sums : Bool) → List ℕ → List ℕ
only_image sums bytes = if is_followed sums bytes then [] else bytes

-- an image as it is written: its bytes, or a line of their hexadecimal digits
abbrev pub in_form : (hex : Bool) → (image : List ℕ) → List ℕ
in_form hex image = if hex then hex_of image ++ 10 ∷ [] else image

-- a text without the blanks at its end, and without those at both ends
abbrev pub without_end : List ℕ → List ℕ
without_end text = take (length text - suffix_len is_ascii_whitespace text) text

abbrev pub trimmed : List ℕ → List ℕ
trimmed text = without_end (drop (prefix_len is_ascii_whitespace text) text)

-- The bytes that a line spells in hexadecimal digits, without the blanks around them. For a line that spells none: no
-- bytes, which can't be read as a sketch.
abbrev pub line_image : List ℕ → List ℕ
line_image line = unwrap_or (bytes_of_hex (trimmed line)) []

-- the lines of a text, each with the LF that ends it, which the last may lack
abbrev pub ended_lines : List ℕ → List (List ℕ)
ended_lines [] = []
ended_lines (byte ∷ text) = if byte == 10 then (byte ∷ []) ∷ ended_lines text else onto_first byte (ended_lines text)

-- what the lines of a text spell
abbrev pub line_images : List ℕ → List (List ℕ)
line_images text = map line_image (ended_lines text)

-- The images of a file that has one in each line. A file without a line counts as one image of no bytes, which can't be
-- read as a sketch.
abbrev pub or_none : List (List ℕ) → List (List ℕ)
or_none [] = [] ∷ []
or_none (image ∷ images) = image ∷ images

-- the images of files that have one in each line
abbrev pub images_in_lines : (texts : List (List ℕ)) → List (List ℕ)
images_in_lines [] = []
images_in_lines (text ∷ texts) = or_none (line_images text) ++ images_in_lines texts

-- what files have in place of images: a file its bytes, or each of its lines the bytes that it spells
abbrev pub parts_of : (hex : Bool) → (texts : List (List ℕ)) → List (List ℕ)
parts_of hex texts = if hex then images_in_lines texts else texts

-- the images of files, of sums or of theta sketches: a file is one, or has one in each line
abbrev pub images_of : (sums hex : Bool) → (texts : List (List ℕ)) → List (List ℕ)
images_of sums hex texts = map (only_image sums) (parts_of hex texts)

-- the images in the rest of a file after this many lines
abbrev pub images_behind : (line : ℕ) → (text : List ℕ) → List (List ℕ)
images_behind line text = if line == 0 then or_none (line_images text) else line_images text

-- the images that are left in the open file, if its bytes are known
abbrev pub open_images : (line : ℕ) → Option (Option (List ℕ)) → Option (List (List ℕ))
open_images line None = Some []
open_images line (Some None) = None
open_images line (Some (Some text)) = Some (images_behind line text)

-- what is left to read of an open file, if it is known
abbrev pub open_text : {R A : Type 0} → (remaining : R → Option (List ℕ)) → Option (BufReader R A) → Option (Option (List ℕ))
open_text remaining reader = option_map (reader_remaining remaining) reader

-- .. and then in the files whose texts are left
abbrev pub before_texts : Option (List (List ℕ)) → Option (List (List ℕ)) → Option (List (List ℕ))
before_texts (Some images) (Some texts) = Some (images ++ images_in_lines texts)
before_texts (Some images) None = None
before_texts None texts = None

-- what is left in place of images: in the open file, if lines have images, and in the texts that are left
abbrev pub parts_left : (hex : Bool) → (open_text : Option (Option (List ℕ))) → (line : ℕ) → Option (List (List ℕ)) → Option (List (List ℕ))
parts_left hex open_text line texts = if hex then before_texts (open_images line open_text) texts else texts

-- .. by the state of the reader of images
abbrev pub remaining_parts : {S R : Type 0}
    → (remaining : R → Option (List ℕ))
    → (texts : S → Option (List (List ℕ)))
    → Images S R
    → Option (List (List ℕ))
remaining_parts remaining texts images = parts_left images.hex (open_text remaining images.«open») images.line (texts images.inputs.sources)

-- the images that are left
abbrev pub remaining_images : {S R : Type 0}
    → (remaining : R → Option (List ℕ))
    → (texts : S → Option (List (List ℕ)))
    → Images S R
    → Option (List (List ℕ))
remaining_images remaining texts images = option_map (map (only_image images.sums)) (remaining_parts remaining texts images)

-- the next image is the first that was left, or the open file has none, and it is closed and the same images are left
abbrev pub GivesOrCloses : {V R : Type 0} → (V → List ℕ) → (old new : Option (List (List ℕ))) → (open_file : Option R) → Option V → Type 0
GivesOrCloses items old new open_file None = IfSome old (λ images. new ≡ Some images) × (open_file ≡ None)
GivesOrCloses items old new open_file (Some v) = GivesNext (λ w. Some (items w)) old new (Some v)

-- the next image is the first that was left, and it is the image of this sketch under the seed
pub record ReadsFirst (seed : ℕ) (images : List (List ℕ)) (s : Compact ℕ) (left : Option (List (List ℕ))) : Type 0 where
  pub image : List ℕ
  pub images_after : List (List ℕ)
  pub parted : images ≡ image ∷ images_after
  pub reads : Reads image (seed_hash seed) s
  pub leaves : left ≡ Some images_after

-- the next image was read, or there is none
abbrev pub ReadsNext : (seed : ℕ) → (old new : Option (List (List ℕ))) → Option (Compact ℕ) → Type 0
ReadsNext seed None new next = ⊤
ReadsNext seed (Some images) new None = images ≡ []
ReadsNext seed (Some images) new (Some s) = ReadsFirst seed images s new

-- why bytes are not one image: of a sketch of sums, or of a theta sketch
abbrev pub image_flaw : (sums : Bool) → (h : ℕ) → List ℕ → Flaw
image_flaw sums h bytes = if sums then sums_flaw_of h bytes else flaw_of h bytes

-- how many entries an image has by its preamble: of a sketch of sums, or of a theta sketch
abbrev pub count_of : (sums : Bool) → List ℕ → ℕ
count_of sums bytes = if sums then sums_count bytes else entry_count bytes

-- nothing follows the image that bytes begin, if they begin one
abbrev pub IsOnlyImage : (sums : Bool) → List ℕ → Type 0
IsOnlyImage sums bytes = IfSome (length_of sums bytes) (λ n. length bytes ≤ n)

-- bytes are no image of a sketch of this seed: of sums, or of a theta sketch
abbrev pub IsNoSketch : (sums : Bool) → (seed : ℕ) → List ℕ → Type 0
IsNoSketch true seed bytes = AreNoSums seed bytes
IsNoSketch false seed bytes = IsNoImage seed bytes

-- some of these is no image of a sketch of this seed, if they are known
abbrev pub HasNoSketch : (sums : Bool) → (seed : ℕ) → (images : Option (List (List ℕ))) → Type 0
HasNoSketch sums seed images = IfSome images (HasFault (IsNoSketch sums seed))

-- the number of a line after this many, as far as it is counted
abbrev pub next_number : (line : ℕ) → ℕ
next_number line = min (line + 1) (2 ^ 64 - 1)

-- a line that was read has the next number, or its file has no line and is closed
abbrev pub CountsLine : {R : Type 0} → (open_file : Option R) → (old new : ℕ) → Type 0
CountsLine None old new = (old ≡ 0) × (new ≡ 0)
CountsLine (Some reader) old new = new ≡ next_number old

-- the reader of images is where it was
abbrev pub IsSameReader : {S R : Type 0} → (old new : Images S R) → Type 0
IsSameReader old new =
    (new.inputs ≡ old.inputs)
    × (new.sums ≡ old.sums)
    × (new.hex ≡ old.hex)
    × (new.«open» ≡ old.«open»)
    × (new.line ≡ old.line)
    × (new.seed ≡ old.seed)
