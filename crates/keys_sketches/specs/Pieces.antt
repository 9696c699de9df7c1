-- Texts that come in pieces.
use Rattle.std.specs.Prelude.{ℕ, ◌≡◌, List, []}
use Rattle.keys_lines.specs.Open.{IsOpen}
use Rattle.keys_lines.specs.declared.key.Hashing.{Hashing}
use Rattle.keys_sketches.specs.Keys.{LineState}
use Rattle.keys_sketches.specs.Taking.{Takes, InsertsFirst}
use Rattle.keys_sketches.specs.declared.pieces.OpenText.{OpenText}

-- since a sketch was in the state `start`, the lines of `text` were inserted, but for the last one, which is open: no LF has
-- ended it. Lines of other updates in between are lines of no text
pub record HasInserted (start : LineState) (text : List ℕ) (now : LineState) (t : OpenText) : Type 0 where
  pub front : List ℕ
  pub open_line : IsOpen t.hashing front t.last
  pub inserted : Takes t.hashing start [] text now front

-- no byte of a text has come
abbrev pub IsAtStart : Hashing → OpenText → Type 0
IsAtStart hashing t = (t.hashing ≡ hashing) × ((start : LineState) → HasInserted start [] start t)

-- some first lines of a piece were inserted, perhaps none
abbrev pub StopsInPiece : (piece : List ℕ) → (old new : LineState) → OpenText → Type 0
StopsInPiece piece old new t = (front : List ℕ) → IsOpen t.hashing front t.last → InsertsFirst t.hashing old front piece new
