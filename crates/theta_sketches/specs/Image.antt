-- Images of theta sketches: which bytes are read as which sketch, and which are written.
use Rattle.std.specs.Prelude.{ℕ, ◌≡◌, ◌≤◌, ◌<◌, true, false, List, length, take, Some}
use Rattle.std.specs.Int.{w64, to_le_bytes}
use Rattle.core_compact.specs.CompactState.{Compact, empty_compact}
use Rattle.core_laws.specs.Entries.{hash_key}
use Rattle.core_images.specs.Preamble.{Begins, is_vacant, announced, seed_hash_at, count_at, theta_at}
use Rattle.core_images.specs.Head.{theta_head, length_of}
use Rattle.core_images.specs.Read.{ReadsFlagged}
use Rattle.core_images.specs.Write.{written_image}
use Rattle.core_images.specs.Entry.{HasEntries, state_after_preamble, SpellsHash}
use Rattle.core_laws.specs.declared.TheConstants.{MAX_THETA}
use Rattle.core_images.specs.declared.preamble.Preamble.{Preamble}

-- Versions 1 and 2 with this preamble: the seed hash of the image is checked only if the sketch is not empty.
pub data ReadsUnflagged (bytes : List ℕ) (p : Preamble) (image_seed_hash h : ℕ) : Compact ℕ → Type 0 where
  vacant_image : p.start ≤ length bytes → is_vacant p ≡ true → ReadsUnflagged bytes p image_seed_hash h (empty_compact h)
  filled_image : (xs : List ℕ)
      → is_vacant p ≡ false
      → image_seed_hash ≡ h
      → HasEntries hash_key SpellsHash bytes p h xs
      → ReadsUnflagged bytes p image_seed_hash h (state_after_preamble p h xs)

-- A prefix of the bytes spells the sketch, under the reader's seed hash h: a case for each version and count of
-- preamble longs.
pub data SpellsSketch (bytes : List ℕ) (h : ℕ) : Compact ℕ → Type 0 where
  version_3 : (longs : ℕ) (s : Compact ℕ) → Begins bytes longs 3 3 → ReadsFlagged hash_key SpellsHash bytes longs h s → SpellsSketch bytes h s
  version_2_empty : Begins bytes 1 2 3 → SpellsSketch bytes h (empty_compact h)
  version_2_exact : (s : Compact ℕ) → Begins bytes 2 2 3
      → ReadsUnflagged bytes (announced 2 (count_at bytes) MAX_THETA true) (seed_hash_at bytes) h s → SpellsSketch bytes h s
  version_2_estimating : (s : Compact ℕ) → Begins bytes 3 2 3
      → ReadsUnflagged bytes (announced 3 (count_at bytes) (theta_at bytes) true) (seed_hash_at bytes) h s → SpellsSketch bytes h s
  version_1 : (longs : ℕ) (s : Compact ℕ) → Begins bytes longs 1 3
      → ReadsUnflagged bytes (announced 3 (count_at bytes) (theta_at bytes) true) h h s → SpellsSketch bytes h s

-- the bytes are read as the sketch, under the reader's seed hash h, which is not 0
pub record Reads (bytes : List ℕ) (h : ℕ) (s : Compact ℕ) : Type 0 where
  pub seeded : 0 < h
  pub spelled : SpellsSketch bytes h s

-- the bytes are read as some sketch
abbrev pub IsReadable : List ℕ → (h : ℕ) → Type 0
IsReadable bytes h = (s : Compact ℕ) × Reads bytes h s

-- the bytes begin with an image of this length, by its preamble, which alone is read as the sketch
pub record BeginsWith (bytes : List ℕ) (h : ℕ) (size : ℕ) (s : Compact ℕ) : Type 0 where
  pub size_is : length_of (theta_head bytes) ≡ Some size
  pub within : size ≤ length bytes
  pub alone : Reads (take size bytes) h s

-- the image of a sketch
abbrev pub written : Compact ℕ → List ℕ
written = written_image (λ hash. to_le_bytes w64 hash) 3 0
