-- A line that has begun.
use Rattle.std.specs.Prelude.{ℕ, ◌≡◌, ◌==◌, ◌+◌, ◌-◌, not, min, List, length}
use Rattle.sketch_base.specs.MurmurState.{HasWritten}
use Rattle.keys_lines.specs.Keys.{key_of, fields_of}
use Rattle.keys_lines.specs.declared.key.Hashing.{Hashing}
use Rattle.keys_lines.specs.declared.key.Key.{Key}
use Rattle.keys_lines.specs.declared.key.Key.TheVariants.{Line, Field}
use Rattle.keys_lines.specs.declared.open_key.OpenKey.{OpenKey}
use Rattle.keys_lines.specs.declared.open_line.OpenLine.{OpenLine}

-- the number of separators of a line, counted up to one more than those before the key's field
abbrev pub passed_of : Key → List ℕ → ℕ
passed_of Line line = 0
passed_of (Field before separator) line = min (length (fields_of separator line) - 1) (before + 1)

-- the hasher, of this seed, has the key of these bytes
pub record IsOpenKey (seed : ℕ) (key : Key) (bytes : List ℕ) (open_key : OpenKey) : Type 0 where
  pub hashed : HasWritten seed (key_of key bytes) open_key.hasher
  pub counted : open_key.passed ≡ passed_of key bytes

-- the open line has these bytes
pub record IsOpen (hashing : Hashing) (bytes : List ℕ) (line : OpenLine) : Type 0 where
  pub same_hashing : line.hashing ≡ hashing
  pub hashed : IsOpenKey hashing.seed hashing.key bytes line.open_key
  pub begun : line.begun ≡ not (length bytes == 0)
