-- The key of a line, and its hash.
use Rattle.std.specs.Prelude.{ℕ, ◌==◌, List, [], ◌∷◌, length, get_or, if◌then◌else◌}
use Rattle.std.specs.List.{onto_first}
use Rattle.sketch_base.specs.Seed.{hash_of}
use Rattle.keys_lines.specs.declared.key.Hashing.{Hashing}
use Rattle.keys_lines.specs.declared.key.Key.{Key}
use Rattle.keys_lines.specs.declared.key.Key.TheVariants.{Line, Field}

-- the fields of a line, between separators; a line without a separator is one field
abbrev pub fields_of : (separator : ℕ) → List ℕ → List (List ℕ)
fields_of separator [] = [] ∷ []
fields_of separator (byte ∷ line) = if byte == separator then [] ∷ fields_of separator line else onto_first byte (fields_of separator line)

-- The key of a line: the whole line, or the field after this many others. A line without a separator is its own key,
-- and a line of fewer fields has an empty key.
abbrev pub key_of : Key → List ℕ → List ℕ
key_of Line line = line
key_of (Field before separator) line = if length (fields_of separator line) == 1 then line else get_or (fields_of separator line) before []

-- hashing by this key, under this seed
abbrev pub hashing_of : Key → (seed : ℕ) → Hashing
hashing_of key seed = record { key = key; seed = seed }

-- the hash of a line's key
abbrev pub line_hash : Hashing → List ℕ → ℕ
line_hash hashing line = hash_of hashing.seed (key_of hashing.key line)
