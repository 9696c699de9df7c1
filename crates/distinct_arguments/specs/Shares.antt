-- The part of each file that a command reads.
use Rattle.std.specs.Prelude.{ℕ, ◌==◌, List, length, Option, Some, None, if◌then◌else◌}
use Rattle.std.specs.Option.{option_map, option_and_then}
use Rattle.std.specs.List.{before_first, after_first, position_or_len}
use Rattle.distinct_arguments.specs.Words.{number_of}
use Rattle.distinct_arguments.specs.declared.share.Share.{Share}

-- the number of a part, from 1, and how many parts there are
pub record ShareNumbers : Type 0 where
  pub index : ℕ
  pub parts : ℕ

abbrev pub numbers_of : Share → ShareNumbers
numbers_of share = record { index = share.index; parts = share.parts }

-- the part of a number of parts that a word spells
abbrev pub share_among : (word : List ℕ) → (parts : ℕ) → Option ShareNumbers
share_among word parts = option_map (λ n. record { index = n; parts = parts }) (number_of 1 parts word)

-- the part that a word spells: its number, a slash (47), and the number of all parts, up to 2^32 - 1
abbrev pub share_of : List ℕ → Option ShareNumbers
share_of word =
    if position_or_len (λ byte. byte == 47) word == length word then None else
    option_and_then (share_among (before_first (λ byte. byte == 47) word)) (number_of 1 4294967295 (after_first (λ byte. byte == 47) word))
