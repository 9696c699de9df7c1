-- A line as it is read: without its CR, and with one tab for each run of blanks.
use Rattle.std.specs.Prelude.{ℕ, ◌-◌, ◌==◌, ◌||◌, Bool, List, [], ◌∷◌, ◌++◌, length, take, get_or, if◌then◌else◌}
use Rattle.keys_fields.specs.declared.layout.Layout.{Layout}

-- texts with a byte between two of them
abbrev pub joined : (between : ℕ) → List (List ℕ) → List ℕ
joined between [] = []
joined between (text ∷ []) = text
joined between (text ∷ next ∷ texts) = text ++ between ∷ joined between (next ∷ texts)

-- a space or a tab
abbrev pub is_blank : (byte : ℕ) → Bool
is_blank byte = byte == 32 || byte == 9

-- the words of a line that continues an open word: runs of bytes that are no blanks
abbrev pub words_after : (word line : List ℕ) → List (List ℕ)
words_after word [] = if length word == 0 then [] else word ∷ []
words_after word (byte ∷ line) =
    if is_blank byte then (if length word == 0 then words_after [] line else word ∷ words_after [] line) else words_after (word ++ byte ∷ []) line

-- the words of a line
abbrev pub words_of : (line : List ℕ) → List (List ℕ)
words_of line = words_after [] line

-- the last byte of a line is a CR
abbrev pub has_return : (line : List ℕ) → Bool
has_return line = get_or line (length line - 1) 0 == 13

-- a line without a CR at its end
abbrev pub without_return : (line : List ℕ) → List ℕ
without_return line = if has_return line then take (length line - 1) line else line

-- a line without its CR, if that is a part of its end
abbrev pub stripped : Layout → (line : List ℕ) → List ℕ
stripped layout line = if layout.returns then without_return line else line

-- a line as it is read
abbrev pub plain_line : Layout → (line : List ℕ) → List ℕ
plain_line layout line = if layout.blanks then joined 9 (words_of (stripped layout line)) else stripped layout line

-- the byte between the fields of a line as it is read
abbrev pub separator_of : Layout → ℕ
separator_of layout = if layout.blanks then 9 else layout.separator
