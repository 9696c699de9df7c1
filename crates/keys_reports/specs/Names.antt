-- Names as they are written in a line of text and in JSON: texts of which each character is spelled by characters.
use Rattle.std.specs.Prelude.{ℕ, ◌/◌, ◌%◌, ◌==◌, ◌||◌, ◌++◌, nat_lt, List, [], ◌∷◌, chars, codes, encode_utf8_all}
use Rattle.std.specs.Prelude.{flat_map, if◌then◌else◌}
use Rattle.std.specs.Char.{is_control, digit_char}
use Rattle.std.specs.Str.{is_utf8}

-- a text in UTF-8 with each of its characters spelled by characters
unfoldable pub respelled : (ℕ → List ℕ) → List ℕ → List ℕ
respelled spelling text = encode_utf8_all (flat_map spelling (chars text))

-- a byte as `\x` and two lower-case hexadecimal digits
abbrev pub escaped_byte : ℕ → List ℕ
escaped_byte b = codes "\\x" ++ digit_char (b / 16) ∷ digit_char (b % 16) ∷ []

-- a control character: a tab, an LF and a CR as `\t`, `\n` and `\r`, any other as the bytes of its UTF-8, of which there
-- are two, the first c2, if it is above 127
abbrev pub escaped_control : ℕ → List ℕ
escaped_control c =
    if c == 9 then codes "\\t" else
    if c == 10 then codes "\\n" else
    if c == 13 then codes "\\r" else
    if nat_lt c 128 then escaped_byte c else codes "\\xc2" ++ escaped_byte c

-- a character on a line: a backslash is doubled, a control character is escaped, the others are as they are
abbrev pub line_char : ℕ → List ℕ
line_char c = if c == 92 then codes "\\\\" else (if is_control c then escaped_control c else c ∷ [])

-- a name on a line
abbrev pub escaped_name : List ℕ → List ℕ
escaped_name = respelled line_char

-- a byte of a name that isn't UTF-8: as the character that it is, or escaped if it is above 127
abbrev pub byte_chars : ℕ → List ℕ
byte_chars b = if nat_lt b 128 then line_char b else escaped_byte b

-- a name of any bytes on a line: each byte above 127 is escaped if the name isn't UTF-8
unfoldable pub escaped_bytes : List ℕ → List ℕ
escaped_bytes name = if is_utf8 name then escaped_name name else encode_utf8_all (flat_map byte_chars name)

-- a character in a JSON string: `"` and `\` after a backslash, those below 32 as `\u00` with two lower-case hexadecimal
-- digits, the others as they are
abbrev pub json_char : ℕ → List ℕ
json_char c =
    if c == 34 || c == 92 then 92 ∷ c ∷ []
    else (if nat_lt c 32 then codes "\\u00" ++ digit_char (c / 16) ∷ digit_char (c % 16) ∷ []
    else c ∷ [])

-- a name as a JSON string
abbrev pub json_string : List ℕ → List ℕ
json_string name = codes "\"" ++ respelled json_char name ++ codes "\""
