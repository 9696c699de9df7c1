-- The lines of a text.
use Rattle.std.specs.Prelude.{◌≡◌, ℕ, ⊤, ◌<◌, ◌==◌, List, [], ◌∷◌, ◌++◌, length, slice_index, if◌then◌else◌}
use Rattle.std.specs.List.{onto_first}

-- the lines of a text: each ends in an LF, which the last one may lack
abbrev pub lines_of : List ℕ → List (List ℕ)
lines_of [] = []
lines_of (byte ∷ text) = if byte == 10 then [] ∷ lines_of text else onto_first byte (lines_of text)

-- the lines of a text that continues an open line
abbrev pub lines_after : (front text : List ℕ) → List (List ℕ)
lines_after front [] = if length front == 0 then [] else front ∷ []
lines_after front (byte ∷ text) = if byte == 10 then front ∷ lines_after [] text else lines_after (front ++ byte ∷ []) text

-- the lines of several texts, each text cut into lines by itself
abbrev pub lines_of_all : List (List ℕ) → List (List ℕ)
lines_of_all [] = []
lines_of_all (text ∷ texts) = lines_of text ++ lines_of_all texts

-- a text doesn't have this byte
abbrev pub Lacks : (byte : ℕ) → List ℕ → Type 0
Lacks byte text = (i : ℕ) → i < length text → slice_index text i ≡ byte → ⊥

-- a text has only whole lines: it is empty or ends in an LF
pub data IsWhole : List ℕ → Type 0 where
  nothing : IsWhole []
  ended : (text : List ℕ) → IsWhole (text ++ 10 ∷ [])

-- each text but perhaps the last has only whole lines
abbrev pub AreWhole : List (List ℕ) → Type 0
AreWhole [] = ⊤
AreWhole (text ∷ []) = ⊤
AreWhole (text ∷ next ∷ texts) = IsWhole text × AreWhole (next ∷ texts)
