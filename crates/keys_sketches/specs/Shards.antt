-- Texts that are sketched apart, and united.
use Rattle.std.specs.Prelude.{ℕ, ◌≡◌, ◌≤◌, ◌^◌, ⊤, List, [], ◌∷◌, map}
use Rattle.sketch_base.specs.Seed.{seed_hash}
use Rattle.core_compact.specs.CompactState.{Compact, compact_value}
use Rattle.core_laws.specs.Entries.{hash_key, first_hash}
use Rattle.core_laws.specs.Operators.{unite}
use Rattle.core_laws.specs.Values.{Sketch}
use Rattle.core_laws.specs.declared.TheConstants.{MAX_THETA}
use Rattle.theta_sketches.specs.Image.{Reads}
use Rattle.keys_lines.specs.Lines.{lines_of}
use Rattle.keys_lines.specs.declared.key.Hashing.{Hashing}
use Rattle.keys_sketches.specs.Keys.{value_of_lines, image_of_text, sketch_of_value}

-- the union of values, as `distinct union` makes it
abbrev pub united : (lg_k : ℕ) → List (Sketch ℕ) → Sketch ℕ
united lg_k values = unite hash_key first_hash (2 ^ lg_k) MAX_THETA values

-- the images of texts
abbrev pub images_of_texts : Hashing → (lg_k : ℕ) → List (List ℕ) → List (List ℕ)
images_of_texts hashing lg_k texts = map (λ text. image_of_text hashing lg_k text) texts

-- the values of compact sketches
abbrev pub values_of_sketches : List (Compact ℕ) → List (Sketch ℕ)
values_of_sketches sketches = map (λ s. compact_value hash_key s) sketches

-- each image is read as its sketch
abbrev pub AreReadBy : {S : Type 0} → (Reads : List ℕ → S → Type 0) → (images : List (List ℕ)) → List S → Type 0
AreReadBy Reads [] [] = ⊤
AreReadBy Reads (bytes ∷ images) (s ∷ sketches) = Reads bytes s × AreReadBy Reads images sketches
AreReadBy Reads [] (s ∷ sketches) = ⊥
AreReadBy Reads (bytes ∷ images) [] = ⊥

-- the bytes are read as the sketch, under this seed
abbrev pub ReadsUnder : (seed : ℕ) → List ℕ → Compact ℕ → Type 0
ReadsUnder seed bytes s = Reads bytes (seed_hash seed) s

-- each image is read as its sketch, under this seed
abbrev pub AreRead : (seed : ℕ) → List (List ℕ) → List (Compact ℕ) → Type 0
AreRead seed images sketches = AreReadBy (ReadsUnder seed) images sketches

-- the sketches of texts
abbrev pub sketches_of_texts : Hashing → (lg_k : ℕ) → List (List ℕ) → List (Compact ℕ)
sketches_of_texts hashing lg_k texts = map (λ text. sketch_of_value hashing.seed (value_of_lines hashing lg_k (lines_of text))) texts

-- ---- texts of which each is sketched with at least the nominal entries of their union

-- a value is that of a text's lines, with at least 2^lg_k nominal entries
abbrev pub IsValueOfText : Hashing → (lg_k : ℕ) → (text : List ℕ) → Sketch ℕ → Type 0
IsValueOfText hashing lg_k text value = (own : ℕ) × (lg_k ≤ own) × (value ≡ value_of_lines hashing own (lines_of text))

-- .. each value of its own text
abbrev pub AreValuesOfTexts : Hashing → (lg_k : ℕ) → (texts : List (List ℕ)) → List (Sketch ℕ) → Type 0
AreValuesOfTexts hashing lg_k texts values = AreReadBy (IsValueOfText hashing lg_k) texts values

-- an image is read as the sketch of a text's lines, with at least 2^lg_k nominal entries
abbrev pub IsReadAsText : Hashing → (lg_k : ℕ) → (image text : List ℕ) → Type 0
IsReadAsText hashing lg_k image text =
    (own : ℕ) × (lg_k ≤ own) × Reads image (seed_hash hashing.seed) (sketch_of_value hashing.seed (value_of_lines hashing own (lines_of text)))

-- .. each image as the sketch of its own text
abbrev pub AreReadAsTexts : Hashing → (lg_k : ℕ) → (images texts : List (List ℕ)) → Type 0
AreReadAsTexts hashing lg_k images texts = AreReadBy (IsReadAsText hashing lg_k) images texts

-- an image is that of a text's lines, with at least 2^lg_k nominal entries, and at most the 2^26 that a sketch may have
abbrev pub IsImageOfText : Hashing → (lg_k : ℕ) → (image text : List ℕ) → Type 0
IsImageOfText hashing lg_k image text = (own : ℕ) × (lg_k ≤ own) × (own ≤ 26) × (image ≡ image_of_text hashing own text)

-- .. each image of its own text
abbrev pub AreImagesOfTexts : Hashing → (lg_k : ℕ) → (images texts : List (List ℕ)) → Type 0
AreImagesOfTexts hashing lg_k images texts = AreReadBy (IsImageOfText hashing lg_k) images texts
