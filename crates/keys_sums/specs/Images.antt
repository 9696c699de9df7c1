-- Images of sums: those of tuple sketches whose summaries are whole numbers of 64 bits.
use Rattle.std.specs.Prelude.{ℕ, ◌≡◌, ◌≤◌, ⊤, List, [], ◌∷◌}
use Rattle.std.specs.Int.{w64, to_le_bytes}
use Rattle.sketch_base.specs.Seed.{seed_hash}
use Rattle.core_compact.specs.CompactState.{Compact}
use Rattle.core_images.specs.Summary.{SpellsNumber}
use Rattle.core_slots.specs.declared.entry.TupleEntry.{TupleEntry}
use Rattle.keys_lines.specs.Lines.{lines_of}
use Rattle.keys_lines.specs.declared.key.Hashing.{Hashing}
use Rattle.tuple_sketches.specs.Image.{Reads, IsReadable, BeginsWith, written}
use Rattle.tuple_sketches.specs.declared.numbers.SummaryMode.{SummaryMode}
use Rattle.keys_sketches.specs.Shards.{AreReadBy}
use Rattle.keys_sums.specs.Sums.{sketch_of_sums}

-- the image of a sketch of sums: behind each hash its sum's eight bytes, the lowest first
abbrev pub written_sums : Compact (TupleEntry ℕ) → List ℕ
written_sums s = written (λ sum. to_le_bytes w64 sum) s

-- the bytes are read as the sketch of sums, under the reader's seed hash h, which is not 0
abbrev pub ReadsSums : (bytes : List ℕ) → (h : ℕ) → Compact (TupleEntry ℕ) → Type 0
ReadsSums bytes h s = Reads (SpellsNumber 8) bytes h s

-- the bytes are read as some sketch of sums
abbrev pub AreReadableSums : (bytes : List ℕ) → (h : ℕ) → Type 0
AreReadableSums bytes h = IsReadable (SpellsNumber 8) bytes h

-- the bytes begin with an image of the length by its preamble, which alone is read as the sketch of sums
abbrev pub BeginsWithSums : (bytes : List ℕ) → (h : ℕ) → Compact (TupleEntry ℕ) → Type 0
BeginsWithSums bytes h s = (size : ℕ) × BeginsWith (SpellsNumber 8) 16 bytes h size s

-- the bytes are read as the sketch of sums, under this seed
abbrev pub ReadsSumsUnder : (seed : ℕ) → List ℕ → Compact (TupleEntry ℕ) → Type 0
ReadsSumsUnder seed bytes s = ReadsSums bytes (seed_hash seed) s

-- each image is read as its sketch of sums, under this seed
abbrev pub AreReadSums : (seed : ℕ) → (images : List (List ℕ)) → List (Compact (TupleEntry ℕ)) → Type 0
AreReadSums seed images sketches = AreReadBy (ReadsSumsUnder seed) images sketches

-- the image of the sums of lines
abbrev pub image_of_sums : SummaryMode → Hashing → (amount : List ℕ → ℕ) → (lg_k : ℕ) → List (List ℕ) → List ℕ
image_of_sums mode hashing amount lg_k lines = written_sums (sketch_of_sums mode hashing amount lg_k lines)

-- an image is read as the sketch of the sums of a text's lines, with at least 2^lg_k nominal entries
abbrev pub IsImageOfText : SummaryMode → Hashing → (amount : List ℕ → ℕ) → (lg_k : ℕ) → (image text : List ℕ) → Type 0
IsImageOfText mode hashing amount lg_k image text =
    (own : ℕ) × (lg_k ≤ own) × ReadsSums image (seed_hash hashing.seed) (sketch_of_sums mode hashing amount own (lines_of text))

-- .. each image of its own text
abbrev pub AreImagesOfTexts : SummaryMode → Hashing → (amount : List ℕ → ℕ) → (lg_k : ℕ) → (images texts : List (List ℕ)) → Type 0
AreImagesOfTexts mode hashing amount lg_k [] [] = ⊤
AreImagesOfTexts mode hashing amount lg_k (image ∷ images) (text ∷ texts) =
    IsImageOfText mode hashing amount lg_k image text × AreImagesOfTexts mode hashing amount lg_k images texts
AreImagesOfTexts mode hashing amount lg_k [] (text ∷ texts) = ⊥
AreImagesOfTexts mode hashing amount lg_k (image ∷ images) [] = ⊥
