-- What the program does by its arguments.
use Rattle.std.specs.Prelude.{ℕ, ◌≤◌, ⊤, ◌+◌, ◌==◌, ◌&&◌, ◌||◌, not, nat_lt, Bool, true, false, List, [], ◌∷◌, length}
use Rattle.std.specs.Prelude.{codes, Option, Some, None, is_some, is_none, Result, Ok, Err, if◌then◌else◌}
use Rattle.std.specs.Option.{option_map_or, unwrap_or}
use Rattle.std.specs.List.{list_any}
use Rattle.std.specs.Str.{bytes_eq}
use Rattle.distinct_arguments.specs.Commands.{command_of, word_of}
use Rattle.distinct_arguments.specs.Words.{reads_lines, reads_expression}
use Rattle.distinct_arguments.specs.Words.{is_help, is_version, is_dir, is_option, is_standard, Setting}
use Rattle.distinct_arguments.specs.Words.{split_option}
use Rattle.distinct_arguments.specs.Table.{Condition, Row, rows, option_of, has_option, is_among}
use Rattle.distinct_arguments.specs.Settings.{SeedValue, seed_number, seed_file, OptionValues, default_options}
use Rattle.distinct_arguments.specs.Settings.{Mistake, no_command, unknown_command, unknown_option}
use Rattle.distinct_arguments.specs.Settings.{no_value, unneeded_value, not_one_expression, sum_needs_value}
use Rattle.distinct_arguments.specs.Settings.{separator_needs_field, groups_need_output, needs_groups, needs, excludes}
use Rattle.distinct_arguments.specs.Settings.{list_excludes_files, standard_twice, output_is_input, with_flag, with_value}
use Rattle.distinct_arguments.specs.Settings.{is_given}
use Rattle.distinct_arguments.specs.declared.commands.Command.{Command}
use Rattle.distinct_arguments.specs.declared.commands.Topic.{Topic}
use Rattle.distinct_arguments.specs.declared.commands.Topic.TheVariants.{Program, Version, Help}
use Rattle.distinct_arguments.specs.declared.commands.Command.TheVariants.{Sum}
use Rattle.distinct_arguments.specs.declared.table.OptionName.{OptionName}
use Rattle.distinct_arguments.specs.declared.table.Rule.{Rule}
use Rattle.distinct_arguments.specs.declared.table.Rule.TheVariants.{Needs, Excludes, NeedsField, NeedsOutput, NeedsGroups}

-- what the program does: it prints a text, runs a command on files, or fails
pub data Action : Type 0 where
  prints : Topic → Action
  runs : Command → OptionValues → (files : List (List ℕ)) → Action
  fails : Mistake → Action

-- an option whose value is the next word, by its name as it is written
pub record Awaiting : Type 0 where
  pub option : OptionName
  pub name : List ℕ

-- what a word means that looks like an option: a request for help, other values of options, an option whose value is
-- the next word, or a mistake
pub data Meaning : Type 0 where
  help : Meaning
  sets : OptionValues → Meaning
  awaits : Awaiting → Meaning
  wrong : Mistake → Meaning

-- what a request for help means, which takes no value
abbrev pub help_meaning : Setting → Meaning
help_meaning setting = option_map_or (λ value. wrong (unneeded_value setting.name)) setting.value help

-- what an option means with its value, or without
abbrev pub value_meaning : Result OptionValues Mistake → Meaning
value_meaning (Ok options) = sets options
value_meaning (Err mistake) = wrong mistake

abbrev pub flag_meaning : Awaiting → Option OptionValues → Meaning
flag_meaning awaiting None = awaits awaiting
flag_meaning awaiting (Some options) = sets options

-- what an option of a command means
abbrev pub option_meaning : Command → OptionValues → Setting → OptionName → Meaning
option_meaning command options setting option =
    if not (has_option command option) then wrong (unknown_option setting.name) else
    option_map_or (λ value. value_meaning (with_value options option setting.name value)) setting.value
    (flag_meaning (record { option = option; name = setting.name }) (with_flag options option))

-- what a word means
abbrev pub setting_meaning : Command → OptionValues → Setting → Meaning
setting_meaning command options setting =
    if is_help setting.name then help_meaning setting else
    option_map_or (option_meaning command options setting) (option_of setting.name) (wrong (unknown_option setting.name))

-- how often files are standard input
abbrev pub standard_files : (files : List (List ℕ)) → ℕ
standard_files [] = 0
standard_files (file ∷ files) = (if is_standard file then 1 else 0) + standard_files files

-- whether the seed is read from standard input
abbrev pub is_standard_seed : SeedValue → Bool
is_standard_seed (seed_number n) = false
is_standard_seed (seed_file name) = is_standard name

-- whether the list of files is read from standard input
abbrev pub is_standard_list : Option (List ℕ) → Bool
is_standard_list list = option_map_or is_standard list false

-- whether options say that the files have images: of sums, or of groups
abbrev pub reads_images : OptionValues → Bool
reads_images options = options.sums || options.groups

-- whether lines are read from standard input because there is no file; images are not
abbrev pub is_standard_default : Command → OptionValues → (files : List (List ℕ)) → Bool
is_standard_default command options files = reads_lines command && not (reads_images options) && is_none options.list && length files == 0

-- how often standard input is read
abbrev pub standard_uses : Command → OptionValues → (files : List (List ℕ)) → ℕ
standard_uses command options files =
    (if is_standard_seed options.seed then 1 else 0)
    + (if is_standard_list options.list then 1 else 0)
    + (if is_standard_default command options files then 1 else 0)
    + standard_files files

-- whether a command that reads an expression has it as its only file word
abbrev pub has_one_expression : Command → (files : List (List ℕ)) → Bool
has_one_expression command files = not (reads_expression command) || length files == 1

-- numbers are to be summed, but no field of them is chosen
abbrev pub lacks_value : Command → OptionValues → Bool
lacks_value Sum options = is_none options.value
lacks_value _ options = false

-- whether an option chooses a field, or fields are those of records
abbrev pub chooses_field : OptionValues → Bool
chooses_field options = options.csv || is_some options.field || is_some options.by || is_some options.value

-- whether options say where images of groups go: as digits to standard output, or to files of their own
abbrev pub places_groups : OptionValues → Bool
places_groups options = options.hex || is_some options.folder

-- whether options make groups: of lines, or of images
abbrev pub makes_groups : OptionValues → Bool
makes_groups options = is_some options.by || options.groups

-- the mistake of an option that is given, if it breaks a rule
abbrev pub broken_rule : OptionValues → OptionName → Rule → Option Mistake
broken_rule options option (Needs other) = if is_given options other then None else Some (needs option other)
broken_rule options option (Excludes other) = if is_given options other then Some (excludes option other) else None
broken_rule options option NeedsField = if chooses_field options then None else Some separator_needs_field
broken_rule options option NeedsOutput = if places_groups options then None else Some groups_need_output
broken_rule options option NeedsGroups = if makes_groups options then None else Some (needs_groups option)

-- the first of two mistakes, if there is one
abbrev pub first_of : (first second : Option Mistake) → Option Mistake
first_of None second = second
first_of (Some mistake) second = Some mistake

-- the mistake of an option that is given, if a command breaks this rule
abbrev pub broken_in : Command → OptionValues → OptionName → Condition → Option Mistake
broken_in command options option condition =
    if is_among (word_of command) condition.commands then broken_rule options option condition.rule else None

-- .. or one of these rules: that of the first
abbrev pub broken_condition : Command → OptionValues → OptionName → List Condition → Option Mistake
broken_condition command options option [] = None
broken_condition command options option (condition ∷ conditions) =
    first_of (broken_in command options option condition) (broken_condition command options option conditions)

-- the mistake of options that break a rule of a row: that of the first
abbrev pub broken_by : Command → OptionValues → Row → Option Mistake
broken_by command options row = if is_given options row.option then broken_condition command options row.option row.rules else None

-- .. or of these rows
abbrev pub broken_row : Command → OptionValues → List Row → Option Mistake
broken_row command options [] = None
broken_row command options (row ∷ more) = first_of (broken_by command options row) (broken_row command options more)

-- the mistake of options that don't fit together, by the table
abbrev pub broken : Command → OptionValues → Option Mistake
broken command options = broken_row command options rows

-- whether a command reads the files of these options as lines
abbrev pub reads_texts : Command → OptionValues → Bool
reads_texts command options = reads_lines command && not (reads_images options) || options.keys

-- whether the output of this name is one of the files of lines that a command reads, and may not be; `-` is standard input
abbrev pub overwrites : Command → OptionValues → (name : List ℕ) → (files : List (List ℕ)) → Bool
overwrites command options name files =
    reads_texts command options && not options.force && not (is_standard name) && list_any (λ file. bytes_eq file name) files

-- whether what a command writes may go where its options say
abbrev pub keeps_files : Command → OptionValues → (files : List (List ℕ)) → Bool
keeps_files command options files = option_map_or (λ name. not (overwrites command options name files)) options.output true

-- the mistake of an output that is an input
abbrev pub output_mistake : OptionValues → Mistake
output_mistake options = output_is_input (unwrap_or options.output [])

-- what a command does with its files, unless they don't fit a list of files, or standard input would be read twice
abbrev pub listed_action : Command → OptionValues → (files : List (List ℕ)) → Action
listed_action command options files =
    if is_some options.list && not (length files == 0) then fails list_excludes_files else
    if nat_lt 1 (standard_uses command options files) then fails standard_twice else
    runs command options files

-- what a command does with its options and files, unless they don't fit together
abbrev pub run_action : Command → OptionValues → (files : List (List ℕ)) → Action
run_action command options files =
    if not (has_one_expression command files) then fails not_one_expression else
    if lacks_value command options then fails sum_needs_value else
    option_map_or (λ mistake. fails mistake) (broken command options) (listed_action command options files)

-- what the program does after a word's meaning
abbrev pub at_meaning : Command → Meaning → (sets : OptionValues → Action) → (awaits : Awaiting → Action) → Action
at_meaning command help at_sets at_awaits = prints (Help command)
at_meaning command (sets options) at_sets at_awaits = at_sets options
at_meaning command (awaits awaiting) at_sets at_awaits = at_awaits awaiting
at_meaning command (wrong mistake) at_sets at_awaits = fails mistake

-- .. and after an option's value
abbrev pub at_value : Result OptionValues Mistake → (OptionValues → Action) → Action
at_value (Ok options) next = next options
at_value (Err mistake) next = fails mistake

-- What the program does by the words after a command, its options before its files (`Places`): the value that an option
-- awaits, options, and then files. The files are the words after `--`, or those from the first on that is no option.
abbrev pub command_action : Command → OptionValues → Option Awaiting → List (List ℕ) → Action
command_action command options None [] = run_action command options []
command_action command options None (word ∷ words) =
    if bytes_eq word (codes "--") then run_action command options words else
    if not (is_option word) then run_action command options (word ∷ words) else
    at_meaning command (setting_meaning command options (split_option word))
    (λ next. command_action command next None words)
    (λ awaiting. command_action command options (Some awaiting) words)
command_action command options (Some awaiting) [] = fails (no_value awaiting.name)
command_action command options (Some awaiting) (value ∷ words) =
    at_value (with_value options awaiting.option awaiting.name value) (λ next. command_action command next None words)

-- what the program does by words that don't begin with `-C`
abbrev pub first_action : List (List ℕ) → Action
first_action [] = fails no_command
first_action (word ∷ words) =
    if is_help word then prints Program else
    if is_version word then prints Version else
    option_map_or (λ command. command_action command (default_options command) None words) (command_of word) (fails (unknown_command word))

-- what the program does, and before it the folders that it enters one after another
pub record Placed : Type 0 where
  pub dirs : List (List ℕ)
  pub action : Action

abbrev pub within : (dir : List ℕ) → Placed → Placed
within dir placed = record { dirs = dir ∷ placed.dirs; action = placed.action }

-- What the program does by words, behind the name of an option that awaits a folder or not: each `-C` in front names a
-- folder, which is after its `=` or the next word.
abbrev pub placed_action : Option (List ℕ) → List (List ℕ) → Placed
placed_action None [] = record { dirs = []; action = first_action [] }
placed_action None (word ∷ words) =
    if not (is_dir (split_option word).name) then record { dirs = []; action = first_action (word ∷ words) } else
    option_map_or (λ dir. within dir (placed_action None words)) (split_option word).value (placed_action (Some (split_option word).name) words)
placed_action (Some name) [] = record { dirs = []; action = fails (no_value name) }
placed_action (Some name) (dir ∷ words) = within dir (placed_action None words)

-- the folders that arguments name in front of the command
abbrev pub dirs_of : List (List ℕ) → List (List ℕ)
dirs_of words = (placed_action None words).dirs

-- what the program does by its arguments
abbrev pub action_of : List (List ℕ) → Action
action_of words = (placed_action None words).action

-- an action reads standard input at most once
abbrev pub ReadsOnce : Action → Type 0
ReadsOnce (prints topic) = ⊤
ReadsOnce (runs command options files) = standard_uses command options files ≤ 1
ReadsOnce (fails mistake) = ⊤
