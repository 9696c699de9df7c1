-- The hashes of the lines at the front of a text.
use Rattle.std.specs.Prelude.{ℕ, ◌≡◌, List, [], ◌∷◌, ◌++◌, map}
use Rattle.keys_lines.specs.Keys.{line_hash}
use Rattle.keys_lines.specs.Lines.{Lacks, lines_after}
use Rattle.keys_lines.specs.declared.key.Hashing.{Hashing}

-- A text begins with a line that an LF ends, whose key has this hash, and the rest follows the LF.
abbrev pub BeginsWithLine : Hashing → (text : List ℕ) (hash : ℕ) (rest : List ℕ) → Type 0
BeginsWithLine hashing text hash rest = (line : List ℕ) × Lacks 10 line × (text ≡ line ++ 10 ∷ rest) × (hash ≡ line_hash hashing line)

-- a text begins with two such lines
abbrev pub BeginsWithTwo : Hashing → (text : List ℕ) (first second : ℕ) (rest : List ℕ) → Type 0
BeginsWithTwo hashing text first second rest =
    (behind : List ℕ) × BeginsWithLine hashing text first behind × BeginsWithLine hashing behind second rest

-- Some first lines of a text have these hashes, and `rest` follows them: with any continuation, the text's lines are
-- these and then those of the rest and the continuation.
abbrev pub AreHashesOfLines : Hashing → (text hashes rest : List ℕ) → Type 0
AreHashesOfLines hashing text hashes rest =
    (lines : List (List ℕ))
    × (hashes ≡ map (line_hash hashing) lines)
    × ((more : List ℕ) → lines_after [] (text ++ more) ≡ lines ++ lines_after [] (rest ++ more))
