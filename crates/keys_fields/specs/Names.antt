-- The names of fields in the first line of a text, and what is left behind it.
use Rattle.std.specs.Prelude.{ℕ, ◌≡◌, ◌+◌, List, [], ◌∷◌, drop, get_or, Option, Some, None, if◌then◌else◌}
use Rattle.std.specs.Option.{option_map}
use Rattle.std.specs.Str.{bytes_eq}
use Rattle.keys_lines.specs.Keys.{fields_of}
use Rattle.keys_lines.specs.Lines.{lines_of}
use Rattle.keys_fields.specs.declared.mapped.Mapped.{Mapped}
use Rattle.keys_fields.specs.Ahead.{ahead_remaining}
use Rattle.keys_fields.specs.Mapping.{count_of, left_out_at_end, lines_for, mapped_remaining}
use Rattle.keys_fields.specs.Passing.{bytes_for, is_left_out}

-- the place of the first field with a name, from 0
abbrev pub place_of : (name : List ℕ) → (fields : List (List ℕ)) → Option ℕ
place_of name [] = None
place_of name (field ∷ fields) = if bytes_eq field name then Some 0 else option_map (λ n. n + 1) (place_of name fields)

-- the place of the field that has a name in a line
abbrev pub place_in : (separator : ℕ) (name line : List ℕ) → Option ℕ
place_in separator name line = place_of name (fields_of separator line)

-- the first of lines, or nothing
abbrev pub first_of : List (List ℕ) → List ℕ
first_of lines = get_or lines 0 []

-- a text is known, and has these lines
abbrev pub HasText : (text : Option (List ℕ)) → (lines : List (List ℕ)) → Type 0
HasText text lines = (bytes : List ℕ) × (text ≡ Some bytes) × (lines_of bytes ≡ lines)

-- a reader has read nothing of these lines, and left none out
abbrev pub HasLines : {R : Type 0} → (remaining : R → Option (List ℕ)) → Mapped R → (lines : List (List ℕ)) → Type 0
HasLines remaining mapped lines =
    (drop mapped.given mapped.waiting.items ≡ []) × (mapped.begun.items ≡ []) × (mapped.left_out ≡ 0) × HasText (ahead_remaining remaining mapped.ahead) lines

-- what a reader has left are these lines, as they are passed on, and the lines that it will have left out are those of them that
-- lack a number
abbrev pub PassesAll : {R : Type 0} → (remaining : R → Option (List ℕ)) → Mapped R → (lines : List (List ℕ)) → Type 0
PassesAll remaining mapped lines =
    HasLines remaining mapped lines
    × (mapped_remaining remaining mapped ≡ lines_for (bytes_for mapped.passing) lines)
    × (left_out_at_end remaining mapped ≡ count_of (is_left_out mapped.passing) lines)
