-- Images of tuple sketches: which bytes are read as which sketch, and which are written. How summaries are spelled is a
-- parameter.
use Rattle.std.specs.Prelude.{ℕ, ◌≡◌, ◌<◌, ◌≤◌, ◌⊎◌, List, length, take, slice_index, Some}
use Rattle.std.specs.List.{AllByRecursion}
use Rattle.core_compact.specs.CompactState.{Compact}
use Rattle.core_slots.specs.Entry.{tuple_key}
use Rattle.core_slots.specs.declared.entry.TupleEntry.{TupleEntry}
use Rattle.core_images.specs.Head.{tuple_head, length_of}
use Rattle.core_images.specs.Preamble.{Begins}
use Rattle.core_images.specs.Read.{ReadsFlagged}
use Rattle.core_images.specs.Summary.{SpellsTuple, is_tuple_value, tuple_text}
use Rattle.core_images.specs.Write.{written_image}

-- the versions that are read
abbrev pub IsVersion : ℕ → Type 0
IsVersion version = (version ≡ 3) ⊎ (version ≡ 1)

-- the sketch types that are read, under either version
abbrev pub IsSketchType : ℕ → Type 0
IsSketchType kind = (kind ≡ 1) ⊎ (kind ≡ 5)

-- a prefix of the bytes spells the sketch, under the reader's seed hash h
pub record SpellsSketch {S : Type 0} (Spells : List ℕ → S → Type 0) (bytes : List ℕ) (h : ℕ) (s : Compact (TupleEntry S)) : Type 0 where
  pub longs : ℕ
  pub version : ℕ
  pub begins : Begins bytes longs version 9
  pub version_read : IsVersion version
  pub type_read : IsSketchType (slice_index bytes 3)
  pub filled : ReadsFlagged tuple_key (SpellsTuple Spells) bytes longs h s

-- the bytes are read as the sketch, under the reader's seed hash h, which is not 0
pub record Reads {S : Type 0} (Spells : List ℕ → S → Type 0) (bytes : List ℕ) (h : ℕ) (s : Compact (TupleEntry S)) : Type 0 where
  pub seeded : 0 < h
  pub spelled : SpellsSketch Spells bytes h s

-- the bytes are read as some sketch
abbrev pub IsReadable : {S : Type 0} → (List ℕ → S → Type 0) → List ℕ → (h : ℕ) → Type 0
IsReadable {S} Spells bytes h = (s : Compact (TupleEntry S)) × Reads Spells bytes h s

-- the bytes begin with an image of this length, by its preamble and `size` bytes for each entry, which alone is read as the
-- sketch
pub record BeginsWith {S : Type 0} (Spells : List ℕ → S → Type 0) (size : ℕ) (bytes : List ℕ) (h : ℕ) (long : ℕ) (s : Compact (TupleEntry S)) : Type 0 where
  pub size_is : length_of (tuple_head size bytes) ≡ Some long
  pub within : long ≤ length bytes
  pub alone : Reads Spells (take long bytes) h s

-- each summary of the sketch is a value
abbrev pub HasValues : {S : Type 0} → (S → Type 0) → Compact (TupleEntry S) → Type 0
HasValues IsValue s = AllByRecursion (is_tuple_value IsValue) s.entries

-- the image of a sketch, with each summary's text
abbrev pub written : {S : Type 0} → (S → List ℕ) → Compact (TupleEntry S) → List ℕ
written text = written_image (tuple_text text) 9 1
