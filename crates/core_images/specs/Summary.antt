-- How images spell tuples: a hash, then its summary, whose spelling is a parameter. Whole numbers are spelled by their
-- bytes.
use Rattle.std.specs.Prelude.{ℕ, ℤ, ◌≡◌, List, length, take, drop, ◌++◌}
use Rattle.std.specs.Int.{Width, w64, to_le_bytes, from_le_bytes, cast_signed}
use Rattle.sketch_base.specs.Bytes.{number}
use Rattle.core_slots.specs.declared.entry.TupleEntry.{TupleEntry}
use Rattle.core_images.specs.Entry.{SpellsHash}

-- these bytes spell the entry: those of its hash, and then those of its summary
abbrev pub SpellsTuple : {S : Type 0} → (List ℕ → S → Type 0) → List ℕ → TupleEntry S → Type 0
SpellsTuple Spells bytes e = (first : List ℕ) × (rest : List ℕ) × (bytes ≡ first ++ rest) × SpellsHash first e.hash × Spells rest e.summary

-- an entry is a value if its summary is
abbrev pub is_tuple_value : {S : Type 0} → (S → Type 0) → TupleEntry S → Type 0
is_tuple_value IsValue e = IsValue e.summary

-- the bytes that are written of an entry
abbrev pub tuple_text : {S : Type 0} → (S → List ℕ) → TupleEntry S → List ℕ
tuple_text text e = to_le_bytes w64 e.hash ++ text e.summary

-- these n bytes spell the number, the lowest byte first
abbrev pub SpellsNumber : (n : ℕ) → List ℕ → ℕ → Type 0
SpellsNumber n bytes x = (length bytes ≡ n) × (x ≡ number bytes)

-- these n bytes spell the number in two's complement, the lowest byte first
abbrev pub SpellsSigned : Width → (n : ℕ) → List ℕ → ℤ → Type 0
SpellsSigned w n bytes x = (length bytes ≡ n) × (x ≡ cast_signed w (number bytes))

-- the entry that these bytes spell, if the bytes after its hash are read by `summary_of`
abbrev pub tuple_in : {S : Type 0} → (List ℕ → S) → List ℕ → TupleEntry S
tuple_in summary_of bytes = record { hash = from_le_bytes w64 (take 8 bytes); summary = summary_of (drop 8 bytes) }
