-- Parts of a line that is read in pieces, and how a text starts.
use Rattle.std.specs.Prelude.{ℕ, ◌≡◌, List, length, min, take}
use Rattle.keys_lines.specs.Keys.{key_of}
use Rattle.keys_lines.specs.Open.{passed_of}
use Rattle.keys_lines.specs.declared.key.Key.{Key}
use Rattle.keys_sums.specs.declared.parts.OpenPart.{OpenPart}
use Rattle.keys_sums.specs.declared.starts.TheConstants.{START}
use Rattle.keys_sums.specs.declared.starts.ValueStart.{ValueStart}

-- of the part of a line that has these bytes, something is collected
pub record IsOpenPart {C : Type 0} (is_of : List ℕ → C → Type 0) (key : Key) (bytes : List ℕ) (part : OpenPart C) : Type 0 where
  pub collected : is_of (key_of key bytes) part.collected
  pub counted : part.passed ≡ passed_of key bytes

-- how a text starts: its first 65 bytes, or all if it has fewer
abbrev pub start_of : List ℕ → List ℕ
start_of text = take START text

-- the bytes of a start
abbrev pub bytes_of : ValueStart → List ℕ
bytes_of start = take start.count start.kept

-- it is how this text starts
pub record IsStart (text : List ℕ) (start : ValueStart) : Type 0 where
  pub counted : start.count ≡ min (length text) START
  pub same : bytes_of start ≡ start_of text
