-- The size of a sketch by the standard error that it may have.
use Rattle.std.specs.Prelude.{ℕ, ◌==◌, ◌*◌, ◌+◌, ◌^◌, nat_le, Bool, List, [], ◌∷◌, length, Option, Some, None, if◌then◌else◌}
use Rattle.std.specs.Option.{option_map, option_and_then}
use Rattle.std.specs.List.{find, before_first, after_first, position_or_len}
use Rattle.distinct_arguments.specs.Words.{number_of}

-- how many ten-thousandths a one in the last of so many decimal places is, of which there are up to four
abbrev pub unit_of : (places : ℕ) → Option ℕ
unit_of places =
    if places == 1 then Some 1000 else
    if places == 2 then Some 100 else
    if places == 3 then Some 10 else
    if places == 4 then Some 1 else None

-- the ten-thousandths that decimal places spell
abbrev pub fraction_of : (places : List ℕ) → Option ℕ
fraction_of places = option_and_then (λ unit. option_map (λ n. n * unit) (number_of 0 9999 places)) (unit_of (length places))

-- .. behind a whole number
abbrev pub mixed_of : (whole places : List ℕ) → Option ℕ
mixed_of whole places = option_and_then (λ n. option_map (λ part. n * 10000 + part) (fraction_of places)) (number_of 0 100 whole)

-- the ten-thousandths that a decimal number spells: a whole number up to 100, and decimal places behind a point (46) or none
abbrev pub decimal_of : List ℕ → Option ℕ
decimal_of word =
    if position_or_len (λ byte. byte == 46) word == length word then option_map (λ n. n * 10000) (number_of 0 100 word) else
    mixed_of (before_first (λ byte. byte == 46) word) (after_first (λ byte. byte == 46) word)

-- .. with a percent sign (37) at its end or without
abbrev pub percentage_of : List ℕ → Option ℕ
percentage_of word =
    if position_or_len (λ byte. byte == 37) word == length word then decimal_of word else
    if length (after_first (λ byte. byte == 37) word) == 0 then decimal_of (before_first (λ byte. byte == 37) word) else None

-- whether the standard error of 2^lg_k hashes, which is 1 over the square root of 2^lg_k, is at most this percentage, in
-- ten-thousandths: 100 percent has 10^6 of them
abbrev pub is_enough : (percentage lg_k : ℕ) → Bool
is_enough percentage lg_k = nat_le (10 ^ 12) (2 ^ lg_k * (percentage * percentage))

-- the sizes that sketches may have, as `lg_k`
abbrev pub sizes : List ℕ
sizes = 4 ∷ 5 ∷ 6 ∷ 7 ∷ 8 ∷ 9 ∷ 10 ∷ 11 ∷ 12 ∷ 13 ∷ 14 ∷ 15 ∷ 16 ∷ 17 ∷ 18 ∷ 19 ∷ 20 ∷ 21 ∷ 22 ∷ 23 ∷ 24 ∷ 25 ∷ 26 ∷ []

-- the least that is enough, if one is
unfoldable pub least_size : (percentage : ℕ) → Option ℕ
least_size percentage = find (is_enough percentage) sizes

-- the least size whose standard error is at most the percentage that a word spells, up to 100 percent
abbrev pub size_of : List ℕ → Option ℕ
size_of word = option_and_then (λ percentage. if nat_le percentage 1000000 then least_size percentage else None) (percentage_of word)
