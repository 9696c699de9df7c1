-- The words of a line, and the numbers among them.
use Rattle.core_laws.specs.declared.TheConstants.{MAX_THETA}
use Rattle.std.specs.Prelude.{◌≡◌, IsTrue, ℕ, ◌^◌, List, [], ◌++◌, ◌==◌, ◌&&◌, nat_lt, nat_le, length, codes}
use Rattle.std.specs.Prelude.{Option, Some, None, if◌then◌else◌}
use Rattle.std.specs.List.{slice_split}
use Rattle.std.specs.Str.{bytes_eq, all_ascii_digits}
use Rattle.std.specs.Str.Parse.{digits_value}
use denote.Ref.{Bor}

-- the parts between single spaces
abbrev pub words : List ℕ → List (List ℕ)
words line = slice_split (λ byte. byte == 32) line

-- the words after a word, if any text follows it
abbrev pub more_words : Option (Bor (List ℕ)) → List (List ℕ)
more_words None = []
more_words (Some rest) = words rest.now

-- a number is 1 to 20 digits with a value below 2 ^ 64; leading zeros count as digits
abbrev pub number_of_word : List ℕ → Option ℕ
number_of_word word =
    if all_ascii_digits word && nat_lt 0 (length word) && nat_le (length word) 20 && nat_lt (digits_value 10 word) (2 ^ 64)
    then Some (digits_value 10 word) else None

-- a number, if it is at most a limit
abbrev pub at_most : ℕ → Option ℕ → Option ℕ
at_most limit None = None
at_most limit (Some n) = if nat_le n limit then Some n else None

-- the number that a word spells, if it is at most a limit
abbrev pub small : ℕ → List ℕ → Option ℕ
small limit word = at_most limit (number_of_word word)

-- a starting theta: a number, or the greatest theta by name
abbrev pub start_of : List ℕ → Option ℕ
start_of word = if bytes_eq word (codes "max") then Some MAX_THETA else number_of_word word

-- a text begins with a word of digits that spells this number, followed by `rest`
pub record BeginsWithNumber (text : List ℕ) (value : ℕ) (rest : List ℕ) : Type 0 where
  pub word : List ℕ
  pub parts : text ≡ word ++ rest
  pub digits : IsTrue (all_ascii_digits word)
  pub spells : number_of_word word ≡ Some value
