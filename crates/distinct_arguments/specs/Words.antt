-- Single words of the program's arguments.
use Rattle.std.specs.Prelude.{ℕ, ◌==◌, ◌&&◌, ◌||◌, not, nat_le, nat_lt, Bool, true, false, List, [], ◌∷◌, length, map}
use Rattle.std.specs.Prelude.{codes, Option, Some, None, String, string_bytes, if◌then◌else◌}
use Rattle.std.specs.Option.{option_map_or}
use Rattle.std.specs.List.{before_first, after_first, position_or_len}
use Rattle.std.specs.Str.{bytes_eq, all_ascii_digits}
use Rattle.std.specs.Str.Parse.{digits_value}
use Rattle.sketch_base.specs.Seed.{seed_hash}
use Rattle.distinct_arguments.specs.Table.{takes_attached}
use Rattle.estimates.specs.declared.bounds.Deviations.{Deviations}
use Rattle.estimates.specs.declared.bounds.Deviations.TheVariants.{One, Two, Three}
use Rattle.distinct_arguments.specs.declared.commands.Command.{Command}
use Rattle.distinct_arguments.specs.declared.commands.Command.TheVariants.{Count, Sketch, Combine, Show, Eval}
use Rattle.distinct_arguments.specs.declared.commands.Command.TheVariants.{Visits, Sum, Similarity, Matrix}
use Rattle.distinct_arguments.specs.declared.options.Order.{Order}
use Rattle.distinct_arguments.specs.declared.options.Order.TheVariants.{Name, Greatest}
use Rattle.distinct_arguments.specs.declared.options.Mode.{Mode}
use Rattle.distinct_arguments.specs.declared.options.Mode.TheVariants as mode

-- the bytes of words
abbrev pub words_of : {A : Type 0} → List (String A) → List (List ℕ)
words_of words = map (λ word. string_bytes word) words

-- requests for help and for the version
abbrev pub is_help : List ℕ → Bool
is_help word = bytes_eq word (codes "--help") || bytes_eq word (codes "-h")

abbrev pub is_version : List ℕ → Bool
is_version word = bytes_eq word (codes "--version") || bytes_eq word (codes "-V")

-- the name of the option whose value is the folder to which names of files are relative
abbrev pub is_dir : List ℕ → Bool
is_dir name = bytes_eq name (codes "-C")

-- a word that begins with a hyphen and has at least one more byte
abbrev pub is_option : List ℕ → Bool
is_option [] = false
is_option (first ∷ []) = false
is_option (first ∷ next ∷ word) = first == 45

-- a file name that means standard input
abbrev pub is_standard : List ℕ → Bool
is_standard name = bytes_eq name (codes "-")

-- an option's name, and its value if the same word has it
pub record Setting : Type 0 where
  pub name : List ℕ
  pub value : Option (List ℕ)

abbrev pub setting_with : (name value : List ℕ) → Setting
setting_with name value = record { name = name; value = Some value }

-- the parts of a word before and after the first `=` (61)
abbrev pub split_setting : List ℕ → Setting
split_setting word = record {
  name = before_first (λ byte. byte == 61) word;
  value = if position_or_len (λ byte. byte == 61) word == length word then None else Some (after_first (λ byte. byte == 61) word);
}

-- a hyphen (45) with an ASCII letter, and what is attached to them
abbrev pub short_parts : List ℕ → Option Setting
short_parts [] = None
short_parts (first ∷ []) = None
short_parts (first ∷ second ∷ []) = None
short_parts (first ∷ second ∷ next ∷ word) =
    if first == 45 && nat_lt second 128 then Some (setting_with (first ∷ second ∷ []) (next ∷ word)) else None

-- .. if a value may be attached to them, which begins behind them, also with `=`
abbrev pub attached_parts : List ℕ → Option Setting
attached_parts word = option_map_or (λ parts. if takes_attached parts.name then Some parts else None) (short_parts word) None

-- an option's name, and its value if the word has it: the value is attached to a short name, or behind the first `=`
abbrev pub split_option : List ℕ → Setting
split_option word = option_map_or (λ parts. parts) (attached_parts word) (split_setting word)

-- the commands that read lines from any files or standard input
abbrev pub reads_lines : Command → Bool
reads_lines Count = true
reads_lines Sketch = true
reads_lines (Combine operator) = false
reads_lines Show = false
reads_lines Eval = false
reads_lines Visits = true
reads_lines Sum = true
reads_lines Similarity = false
reads_lines Matrix = false

-- the command that reads an expression
abbrev pub reads_expression : Command → Bool
reads_expression Eval = true
reads_expression _ = false

-- the number that a word spells in decimal digits, if it is from the least to the greatest
abbrev pub number_of : (least greatest : ℕ) → List ℕ → Option ℕ
number_of least greatest word =
    let number = digits_value 10 word in
    if not (length word == 0) && all_ascii_digits word && nat_le least number && nat_le number greatest then Some number else None

-- the one byte of a word
abbrev pub byte_of : List ℕ → Option ℕ
byte_of [] = None
byte_of (byte ∷ []) = Some byte
byte_of (byte ∷ next ∷ word) = None

-- the seed that a word spells, if its seed hash isn't 0
abbrev pub seed_of : List ℕ → Option ℕ
seed_of word = option_map_or (λ seed. if seed_hash seed == 0 then None else Some seed) (number_of 0 18446744073709551615 word) None

-- the standard deviations that a word spells
abbrev pub deviations_of : List ℕ → Option Deviations
deviations_of word =
    if bytes_eq word (codes "1") then Some One else
    if bytes_eq word (codes "2") then Some Two else
    if bytes_eq word (codes "3") then Some Three else None

-- the order of groups that a word names: by name, or by the number that is printed of each
abbrev pub order_of : List ℕ → Option Order
order_of word =
    if bytes_eq word (codes "name") then Some Name else
    if bytes_eq word (codes "estimate") then Some Greatest else
    if bytes_eq word (codes "total") then Some Greatest else None

-- the way to combine the numbers of a key that a word names
abbrev pub mode_of : List ℕ → Option Mode
mode_of word =
    if bytes_eq word (codes "sum") then Some mode.Sum else
    if bytes_eq word (codes "min") then Some mode.Min else
    if bytes_eq word (codes "max") then Some mode.Max else None
