-- Which words of arguments are files, and which are options, in any order.
use Rattle.std.specs.Prelude.{ℕ, ◌++◌, ◌==◌, ◌&&◌, not, Bool, true, false, List, [], ◌∷◌, codes, Option, Some, None, is_none, is_some}
use Rattle.std.specs.Prelude.{if◌then◌else◌}
use Rattle.std.specs.Option.{option_map_or}
use Rattle.std.specs.Str.{bytes_eq}
use Rattle.distinct_arguments.specs.Commands.{command_of}
use Rattle.distinct_arguments.specs.Table.{option_of, kind_of, needs_value}
use Rattle.distinct_arguments.specs.Words.{is_dir, is_option, split_option}
use Rattle.distinct_arguments.specs.declared.places.Place.{Place}
use Rattle.distinct_arguments.specs.declared.places.Place.TheVariants.{Front, Folder, Options, Value, Files, Rest}

-- whether a word is an option whose value is the next word
abbrev pub awaits_value : (word : List ℕ) → Bool
awaits_value word =
    option_map_or (λ option. needs_value (kind_of option) && is_none (split_option word).value) (option_of (split_option word).name) false

-- the place behind a word in front of the command: each `-C` has a folder, and a first word that is no command has no options
abbrev pub front_place : (word : List ℕ) → Place
front_place word =
    if is_dir (split_option word).name then (if is_some (split_option word).value then Front else Folder) else
    option_map_or (λ command. Options) (command_of word) Rest

-- .. and behind one after the command: `--` ends the options
abbrev pub option_place : (word : List ℕ) → Place
option_place word =
    if bytes_eq word (codes "--") then Files else
    if awaits_value word then Value else Options

-- the place behind a word
abbrev pub next_place : Place → (word : List ℕ) → Place
next_place Front word = front_place word
next_place Folder word = Front
next_place Options word = option_place word
next_place Value word = Options
next_place Files word = Files
next_place Rest word = Rest

-- whether a word is a file: after the command it is neither an option nor the value of one, or it is behind `--`
abbrev pub is_file : Place → (word : List ℕ) → Bool
is_file Options word = not (is_option word)
is_file Files word = true
is_file _ word = false

-- whether a word is chosen: a file, or, without `files`, no file
abbrev pub is_chosen : (files : Bool) → Place → (word : List ℕ) → Bool
is_chosen files place word = if files then is_file place word else not (is_file place word)

-- the words from a place on that are files, or those that are not, in their order
abbrev pub chosen : (files : Bool) → Place → List (List ℕ) → List (List ℕ)
chosen files place [] = []
chosen files place (word ∷ words) = (if is_chosen files place word then word ∷ [] else []) ++ chosen files (next_place place word) words

-- the place behind words
abbrev pub last_place : Place → List (List ℕ) → Place
last_place place [] = place
last_place place (word ∷ words) = last_place (next_place place word) words

-- whether a value is missing there
abbrev pub is_unended : Place → Bool
is_unended Value = true
is_unended _ = false

-- Arguments with their options before their files, each in its order. If the last word is an option whose value is missing,
-- there are no files, or the first would be that value.
abbrev pub options_first : List (List ℕ) → List (List ℕ)
options_first words =
    chosen false Front words ++ (if is_unended (last_place Front words) then [] else chosen true Front words)
