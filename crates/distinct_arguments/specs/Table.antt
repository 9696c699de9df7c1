-- The table of options, and what it says of each.
use Rattle.std.specs.Prelude.{ℕ, ◌&&◌, ◌||◌, Bool, true, false, List, [], map, Option, Some, None}
use Rattle.std.specs.Option.{option_map, option_map_or}
use Rattle.std.specs.List.{find, list_any}
use Rattle.std.specs.Str.{bytes_eq}
use Rattle.std.specs.Borrow.{Bor}
use denote.Enum.Bare.{sameb}
use Rattle.distinct_arguments.specs.contracts.table.OptionName.{the_type}
use Rattle.distinct_arguments.specs.declared.commands.Command.{Command}
use Rattle.distinct_arguments.specs.declared.table.OptionName.{OptionName}
use Rattle.distinct_arguments.specs.declared.table.Kind.{Kind}
use Rattle.distinct_arguments.specs.declared.table.Kind.TheVariants.{Flag, Deviations}
use Rattle.distinct_arguments.specs.declared.table.Rule.{Rule}
use Rattle.distinct_arguments.specs.declared.table.TheConstants.{OPTIONS}
use Rattle.distinct_arguments.specs.Commands.{word_of}

-- a rule, and the words of the commands in which it holds
pub record Condition : Type 0 where
  pub commands : List (List ℕ)
  pub rule : Rule

-- a row: an option, its name, its short name if it has one, the kind of its value, the words of the commands that have it,
-- and its rules
pub record Row : Type 0 where
  pub option : OptionName
  pub name : List ℕ
  pub short : Option (List ℕ)
  pub kind : Kind
  pub commands : List (List ℕ)
  pub rules : List Condition

-- the rows of the table
unfoldable pub rows : List Row
rows = map (λ row. record {
  option = row.0;
  name = row.1.now;
  short = option_map (λ short. short.now) row.2;
  kind = row.3;
  commands = map (λ word. word.now) row.4.now;
  rules = map (λ condition. record { commands = map (λ word. word.now) condition.0.now; rule = condition.1 }) row.5.now;
}) OPTIONS

-- what a borrowed row says
abbrev pub Text : Type 0
Text = Bor (List ℕ)

abbrev pub BorrowedCondition : Type 0
BorrowedCondition = Bor (List Text) × Rule × Text

abbrev pub BorrowedRow : Type 0
BorrowedRow = OptionName × Text × Option Text × Kind × Bor (List Text) × Bor (List BorrowedCondition)

abbrev pub words_in : List Text → List (List ℕ)
words_in texts = map (λ word. word.now) texts

abbrev pub condition_in : BorrowedCondition → Condition
condition_in condition = record { commands = words_in condition.0.now; rule = condition.1 }

abbrev pub row_in : BorrowedRow → Row
row_in row = record {
  option = row.0;
  name = row.1.now;
  short = option_map (λ short. short.now) row.2;
  kind = row.3;
  commands = words_in row.4.now;
  rules = map condition_in row.5.now;
}

-- whether a row has an option
abbrev pub has_row : OptionName → Row → Bool
has_row option row = sameb the_type row.option option

-- whether a row is that of the option of a name: its name, or its short one
abbrev pub is_named : (name : List ℕ) → Row → Bool
is_named name row = option_map_or (λ short. bytes_eq row.name name || bytes_eq short name) row.short (bytes_eq row.name name)

-- whether a word is one of these
abbrev pub is_among : (word : List ℕ) → List (List ℕ) → Bool
is_among word words = list_any (λ it. bytes_eq it word) words

-- the row of an option
abbrev pub row_of : OptionName → Option Row
row_of option = find (has_row option) rows

-- the option of a name
abbrev pub option_of : (name : List ℕ) → Option OptionName
option_of name = option_map (λ row. row.option) (find (is_named name) rows)

-- the name of an option
abbrev pub name_of : OptionName → List ℕ
name_of option = option_map_or (λ row. row.name) (row_of option) []

-- its short name
abbrev pub short_of : OptionName → Option (List ℕ)
short_of option = option_map_or (λ row. row.short) (row_of option) None

-- the kind of its value
abbrev pub kind_of : OptionName → Kind
kind_of option = option_map_or (λ row. row.kind) (row_of option) Flag

-- the commands that have an option
abbrev pub has_option : Command → OptionName → Bool
has_option command option = option_map_or (λ row. is_among (word_of command) row.commands) (row_of option) false

-- whether options of a kind need a value
abbrev pub needs_value : Kind → Bool
needs_value Flag = false
needs_value Deviations = false
needs_value _ = true

-- whether a row has this short name, and its option needs a value, which may then be attached to that name
abbrev pub is_attachable : (name : List ℕ) → Row → Bool
is_attachable name row = option_map_or (λ short. bytes_eq short name && needs_value row.kind) row.short false

-- whether a name is a short one to which a value may be attached
abbrev pub takes_attached : (name : List ℕ) → Bool
takes_attached name = list_any (is_attachable name) rows
