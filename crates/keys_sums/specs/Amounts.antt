-- What lines add to the sums of their keys.
use Rattle.std.specs.Prelude.{ℕ, ◌≡◌, ◌==◌, ◌++◌, ◌+◌, ◌&&◌, ◌^◌, ⊤, not, nat_lt, List, [], length, Option, Some, None}
use Rattle.std.specs.Prelude.{is_some, unwrap_or, IsTrue, if◌then◌else◌}
use Rattle.std.specs.List.{AllByRecursion}
use Rattle.std.specs.Str.{all_ascii_digits}
use Rattle.std.specs.Str.Parse.{digits_value}
use Rattle.keys_lines.specs.Keys.{key_of}
use Rattle.keys_lines.specs.Open.{IsOpen}
use Rattle.keys_lines.specs.declared.key.Hashing.{Hashing}
use Rattle.keys_lines.specs.declared.key.Key.TheVariants.{Line, Field}
use Rattle.keys_sums.specs.Parts.{IsOpenPart, IsStart}
use Rattle.keys_sums.specs.declared.addends.Amount.{Amount}
use Rattle.keys_sums.specs.declared.addends.Amount.TheVariants.{One, Number}
use Rattle.keys_sums.specs.declared.addends.OpenAddend.{OpenAddend}
use Rattle.keys_sums.specs.declared.digits.Digits.{Digits}
use Rattle.keys_sums.specs.declared.digits.Digits.TheVariants.{Nothing, Spells, Wrong}
use Rattle.keys_sums.specs.declared.parts.OpenPart.{OpenPart}

-- the whole number below 2^64 that a text spells in decimal digits, at least one, and nothing else
abbrev pub number_in : List ℕ → Option ℕ
number_in text =
    if not (length text == 0) && all_ascii_digits text && nat_lt (digits_value 10 text) (2 ^ 64) then Some (digits_value 10 text) else None

-- what a line adds, if that is a number: one, or the number in a part of it
abbrev pub amount_in : Amount → (line : List ℕ) → Option ℕ
amount_in One line = Some 1
amount_in (Number key) line = number_in (key_of key line)

-- .. and 0 if it isn't
abbrev pub added_by : Amount → (line : List ℕ) → ℕ
added_by amount line = unwrap_or (amount_in amount line) 0

-- each line adds a number
abbrev pub AreNumbers : Amount → (lines : List (List ℕ)) → Type 0
AreNumbers amount lines = AllByRecursion (λ line. IsTrue (is_some (amount_in amount line))) lines

-- what bytes spell that are read one by one: nothing yet, a number, or none, whatever bytes follow
abbrev pub IsRead : (bytes : List ℕ) → Digits → Type 0
IsRead bytes Nothing = bytes ≡ []
IsRead bytes (Spells n) = number_in bytes ≡ Some n
IsRead bytes Wrong = (more : List ℕ) → number_in (bytes ++ more) ≡ None

-- the part of a line that should be a number, if it should have one
abbrev pub value_in : Amount → (line : List ℕ) → List ℕ
value_in One line = []
value_in (Number key) line = key_of key line

-- the number of the field that it is, the first being 1; 0 if it is none
abbrev pub value_field : Amount → ℕ
value_field One = 0
value_field (Number Line) = 0
value_field (Number (Field before separator)) = before + 1

-- of the part of a line that has these bytes, something is collected, if the line adds such a number
abbrev pub IsCounted : {C : Type 0} → (is_of : List ℕ → C → Type 0) → Amount → (bytes : List ℕ) → OpenPart C → Type 0
IsCounted is_of One bytes part = ⊤
IsCounted is_of (Number key) bytes part = IsOpenPart is_of key bytes part

-- the line to be added has these bytes
pub record IsOpenAddend (hashing : Hashing) (amount : Amount) (bytes : List ℕ) (addend : OpenAddend) : Type 0 where
  pub is_open : IsOpen hashing bytes addend.line
  pub number : IsCounted IsRead amount bytes addend.number
  pub start : IsCounted IsStart amount bytes addend.start

-- the line to be added is whole: these bytes and then its last ones, of which the start of its part doesn't have any yet
pub record IsEndedAddend (hashing : Hashing) (amount : Amount) (line front last : List ℕ) (addend : OpenAddend) : Type 0 where
  pub whole : line ≡ front ++ last
  pub is_open : IsOpen hashing line addend.line
  pub number : IsCounted IsRead amount line addend.number
  pub start : IsCounted IsStart amount front addend.start
