-- Bytes as text: two hexadecimal digits each.
use Rattle.std.specs.Prelude.{ℕ, ◌+◌, ◌-◌, ◌*◌, ◌/◌, ◌%◌, ◌&&◌, nat_le, Bool, true, is_some, List, [], ◌∷◌, Option, get_or}
use Rattle.std.specs.Prelude.{Some, None, if◌then◌else◌}
use Rattle.std.specs.Char.{digit_char}

-- bytes as letters, the high digit first
abbrev pub hex_of : List ℕ → List ℕ
hex_of [] = []
hex_of (byte ∷ bytes) = digit_char (byte / 16) ∷ digit_char (byte % 16) ∷ hex_of bytes

-- the digit of a letter, of either case
abbrev pub digit_of : ℕ → Option ℕ
digit_of c =
    if nat_le 48 c && nat_le c 57 then Some (c - 48)
    else if nat_le 97 c && nat_le c 102 then Some (c - 87)
    else if nat_le 65 c && nat_le c 70 then Some (c - 55)
    else None

-- whether all letters are digits, of either case
abbrev pub are_digits : List ℕ → Bool
are_digits [] = true
are_digits (letter ∷ letters) = is_some (digit_of letter) && are_digits letters

-- the byte of two digits
abbrev pub pair_of : (high low : Option ℕ) → Option ℕ
pair_of (Some high) (Some low) = Some (16 * high + low)
pair_of (Some high) None = None
pair_of None low = None

-- what a digit counts, in one expression for all cases; of another letter only a number
abbrev pub digit_value : ℕ → ℕ
digit_value letter = letter % 16 + 9 * (letter / 64)

-- the byte of a pair of digits
abbrev pub pair_value : List ℕ → ℕ
pair_value pair = 16 * (digit_value (get_or pair 0 0) % 16) + digit_value (get_or pair 1 0) % 16

-- a byte in front of others
abbrev pub before : Option ℕ → Option (List ℕ) → Option (List ℕ)
before (Some byte) (Some bytes) = Some (byte ∷ bytes)
before (Some byte) None = None
before None bytes = None

-- the bytes that letters spell, if they do
abbrev pub bytes_of_hex : List ℕ → Option (List ℕ)
bytes_of_hex [] = Some []
bytes_of_hex (high ∷ []) = None
bytes_of_hex (high ∷ low ∷ text) = before (pair_of (digit_of high) (digit_of low)) (bytes_of_hex text)
