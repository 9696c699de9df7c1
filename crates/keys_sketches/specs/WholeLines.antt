-- Lines that are read piece by piece.
use Rattle.std.specs.Prelude.{◌≡◌, ℕ, ⊤, Bool, true, false, List, ◌++◌, Option, Some, None}
use Rattle.std.specs.Io.BufRead.{take_through, drop_through}

-- the first bytes of a text were appended to a line: all through its first LF, or some after which the rest of the text
-- completes the line in the same way
abbrev pub Continues : (is_done : Bool) (text rest : Option (List ℕ)) (before line : List ℕ) → Type 0
Continues is_done None rest before line = ⊤
Continues is_done (Some text) None before line = ⊥
Continues true (Some text) (Some rest) before line = (line ≡ before ++ take_through 10 text) × (rest ≡ drop_through 10 text)
Continues false (Some text) (Some rest) before line =
    (line ++ take_through 10 rest ≡ before ++ take_through 10 text) × (drop_through 10 rest ≡ drop_through 10 text)
