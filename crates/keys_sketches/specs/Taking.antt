-- Inserting a text that is read in pieces.
use Rattle.std.specs.Prelude.{ℕ, ◌≡◌, List, [], ◌++◌}
use Rattle.keys_lines.specs.Lines.{lines_after}
use Rattle.keys_lines.specs.declared.key.Hashing.{Hashing}
use Rattle.keys_sketches.specs.Keys.{LineState, with_lines}

-- A piece leads from a state and an open line to another state and another open line: with any continuation of the
-- text, both give the same.
abbrev pub Takes : Hashing → (old : LineState) (front piece : List ℕ) (new : LineState) (left : List ℕ) → Type 0
Takes hashing old front piece new left =
    (more : List ℕ)
    → with_lines hashing old (lines_after front (piece ++ more)) ≡ with_lines hashing new (lines_after left more)

-- Some first lines of a piece are inserted, and the rest of the piece is left: with any continuation, the piece's lines are
-- these and then those of the rest.
abbrev pub Leaves : Hashing → (old : LineState) (piece : List ℕ) (new : LineState) (left : List ℕ) → Type 0
Leaves hashing old piece new left =
    (lines : List (List ℕ))
    × (new ≡ with_lines hashing old lines)
    × ((more : List ℕ) → lines_after [] (piece ++ more) ≡ lines ++ lines_after [] (left ++ more))

-- Exactly some first lines of a piece that continues an open line were inserted, perhaps none: with any continuation, the
-- piece's lines begin with these.
abbrev pub InsertsFirst : Hashing → (old : LineState) (front piece : List ℕ) (new : LineState) → Type 0
InsertsFirst hashing old front piece new =
    (first : List (List ℕ))
    × (new ≡ with_lines hashing old first)
    × ((more : List ℕ) → (rest : List (List ℕ)) × (lines_after front (piece ++ more) ≡ first ++ rest))
