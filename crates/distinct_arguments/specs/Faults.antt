-- How the program reads its arguments.
use Rattle.std.specs.Prelude.{ℕ, ◌≡◌, ◌<◌, ◌⊎◌, IsTrue, ⊤, Bool, true, false, List, [], ◌∷◌, length, Option, Some}
use Rattle.std.specs.Prelude.{None, Result, Ok, Err, string_bytes}
use Rattle.distinct_arguments.specs.Arguments.{Action, prints, runs, fails, Meaning, help, sets, awaits, wrong}
use Rattle.distinct_arguments.specs.Arguments.{run_action, command_action, first_action, dirs_of}
use Rattle.distinct_arguments.specs.Arguments.{action_of}
pub use Rattle.distinct_arguments.specs.Settings.{options_of, seed_value}
use Rattle.distinct_arguments.specs.Settings.{OptionValues, Mistake, no_command}
use Rattle.distinct_arguments.specs.Settings.{unknown_command, unknown_option, no_value}
use Rattle.distinct_arguments.specs.Settings.{unneeded_value, wrong_value, zero_seed, not_one_expression}
use Rattle.distinct_arguments.specs.Settings.{sum_needs_value, output_is_input}
use Rattle.distinct_arguments.specs.Settings.{separator_needs_field, groups_need_output, needs_groups, needs, excludes}
use Rattle.distinct_arguments.specs.Settings.{list_excludes_files, standard_twice}
use Rattle.distinct_arguments.specs.Words.{words_of}
use Rattle.distinct_arguments.specs.declared.arguments.Meaning.{Meaning as MeaningOf}
use Rattle.distinct_arguments.specs.declared.arguments.Meaning.TheVariants.{Help as MeansHelp, Sets, Awaits}
use Rattle.distinct_arguments.specs.declared.arguments.Meaning.TheVariants.{Wrong as MeansWrong}
use Rattle.distinct_arguments.specs.declared.arguments.Front.{Front}
use Rattle.distinct_arguments.specs.declared.arguments.Front.TheVariants.{Dir, Other, Wrong as WrongFront}
use Rattle.distinct_arguments.specs.declared.arguments.Step.{Step}
use Rattle.distinct_arguments.specs.declared.arguments.Step.TheVariants.{Next, Help, Files, Wrong}
use Rattle.distinct_arguments.specs.declared.commands.Command.{Command}
use Rattle.distinct_arguments.specs.declared.commands.Request.{Request}
use Rattle.distinct_arguments.specs.declared.commands.Request.TheVariants.{Print, Run}
use Rattle.distinct_arguments.specs.declared.commands.Topic.TheVariants.{Help as HelpOn}
use Rattle.distinct_arguments.specs.declared.fault.Fault.{Fault}
use Rattle.distinct_arguments.specs.declared.fault.Fault.TheVariants.{NoCommand, UnknownCommand, UnknownOption}
use Rattle.distinct_arguments.specs.declared.fault.Fault.TheVariants.{NoValue, UnneededValue}
use Rattle.distinct_arguments.specs.declared.fault.Fault.TheVariants.{WrongValue, ZeroSeed, OutputIsInput}
use Rattle.distinct_arguments.specs.declared.fault.Fault.TheVariants.{NotOneExpression, SumNeedsValue}
use Rattle.distinct_arguments.specs.declared.fault.Fault.TheVariants.{SeparatorNeedsField, GroupsNeedOutput, NeedsGroups}
use Rattle.distinct_arguments.specs.declared.fault.Fault.TheVariants.{Needs, Excludes, ListExcludesFiles}
use Rattle.distinct_arguments.specs.declared.fault.Fault.TheVariants.{StandardTwice, Memory}
use Rattle.distinct_arguments.specs.declared.fault.WrongWord.{WrongWord}
use Rattle.distinct_arguments.specs.declared.fault.WrongWord.TheVariants as wrong_word
use Rattle.distinct_arguments.specs.declared.options.Options.{Options}

-- the exit status: 1 if memory was refused, else 2
abbrev pub fault_status : Fault → ℕ
fault_status Memory = 1
fault_status _ = 2

-- the mistake that a fault reports
abbrev pub mistake_of : Fault → Option Mistake
mistake_of NoCommand = Some no_command
mistake_of (UnknownCommand word) = Some (unknown_command (string_bytes word))
mistake_of (UnknownOption name) = Some (unknown_option (string_bytes name))
mistake_of (NoValue name) = Some (no_value (string_bytes name))
mistake_of (UnneededValue name) = Some (unneeded_value (string_bytes name))
mistake_of (WrongValue option value) = Some (wrong_value option (string_bytes value))
mistake_of (ZeroSeed number) = Some (zero_seed number)
mistake_of NotOneExpression = Some not_one_expression
mistake_of SumNeedsValue = Some sum_needs_value
mistake_of SeparatorNeedsField = Some separator_needs_field
mistake_of GroupsNeedOutput = Some groups_need_output
mistake_of (NeedsGroups option) = Some (needs_groups option)
mistake_of (Needs option other) = Some (needs option other)
mistake_of (Excludes option other) = Some (excludes option other)
mistake_of ListExcludesFiles = Some list_excludes_files
mistake_of StandardTwice = Some standard_twice
mistake_of (OutputIsInput name) = Some (output_is_input (string_bytes name))
mistake_of Memory = None

-- the mistake of a word that a fault quotes
abbrev pub mistake_with : WrongWord → (word : List ℕ) → Mistake
mistake_with wrong_word.UnknownCommand word = unknown_command word
mistake_with wrong_word.UnknownOption name = unknown_option name
mistake_with wrong_word.NoValue name = no_value name
mistake_with wrong_word.UnneededValue name = unneeded_value name
mistake_with (wrong_word.WrongValue option) value = wrong_value option value
mistake_with wrong_word.OutputIsInput name = output_is_input name

-- whether a mistake has a text, which needs memory to report
abbrev pub has_text : Mistake → Bool
has_text (unknown_command word) = true
has_text (unknown_option name) = true
has_text (no_value name) = true
has_text (unneeded_value name) = true
has_text (wrong_value option value) = true
has_text (output_is_input name) = true
has_text _ = false

-- a fault reports a mistake, or that memory for its text was refused
abbrev pub Reports : Fault → Mistake → Type 0
Reports fault mistake = (mistake_of fault ≡ Some mistake) ⊎ ((fault ≡ Memory) × IsTrue (has_text mistake))

-- a fault reports a mistake, if there is one
abbrev pub ReportsIf : Option Fault → Option Mistake → Type 0
ReportsIf (Some fault) (Some mistake) = mistake_of fault ≡ Some mistake
ReportsIf None None = ⊤
ReportsIf (Some fault) None = ⊥
ReportsIf None (Some mistake) = ⊥

-- a value was read, or a fault reports what is wrong with it
abbrev pub ReadsAs : {X : Type 0} → Result X Fault → Result X Mistake → Type 0
ReadsAs (Ok x) (Ok y) = x ≡ y
ReadsAs (Err fault) (Err mistake) = Reports fault mistake
ReadsAs (Ok x) (Err mistake) = ⊥
ReadsAs (Err fault) (Ok y) = ⊥

-- a fault reports what is wrong
abbrev pub ReportsMistake : Fault → Action → Type 0
ReportsMistake fault (prints topic) = ⊥
ReportsMistake fault (runs command options files) = ⊥
ReportsMistake fault (fails mistake) = Reports fault mistake

-- what the program does by a request
abbrev pub request_action : Request → Action
request_action (Print topic) = prints topic
request_action (Run command options files) = runs command (options_of options) (words_of files.now)

-- a request is for what the program should do, and a fault reports what is wrong
abbrev pub ParsesAs : Result Request Fault → Action → Type 0
ParsesAs (Ok request) action = request_action request ≡ action
ParsesAs (Err fault) action = ReportsMistake fault action

-- options have these values, or a fault reports what is wrong
abbrev pub SetsOptions : Result Options Fault → Result OptionValues Mistake → Type 0
SetsOptions (Ok options) (Ok values) = options_of options ≡ values
SetsOptions (Err fault) (Err mistake) = Reports fault mistake
SetsOptions (Ok options) (Err mistake) = ⊥
SetsOptions (Err fault) (Ok values) = ⊥

-- a word with an option of this name has this meaning, or a fault reports what is wrong with it
abbrev pub IsWrong : Fault → Meaning → Type 0
IsWrong fault help = ⊥
IsWrong fault (sets options) = ⊥
IsWrong fault (awaits awaiting) = ⊥
IsWrong fault (wrong mistake) = Reports fault mistake

abbrev pub IsMeaning : (name : List ℕ) → MeaningOf → Meaning → Type 0
IsMeaning name MeansHelp meaning = help ≡ meaning
IsMeaning name (Sets options) meaning = sets (options_of options) ≡ meaning
IsMeaning name (Awaits option) meaning = awaits (record { option = option; name = name }) ≡ meaning
IsMeaning name (MeansWrong fault) meaning = IsWrong fault meaning

-- The front of words after a command: an option, after which fewer words than this count have the same action, or all
-- that the words mean.
abbrev pub IsStep : Command → OptionValues → (count : ℕ) → Action → Step → Type 0
IsStep command options count action (Next changed behind) =
    (length behind.now < count) × (command_action command (options_of changed) None (words_of behind.now) ≡ action)
IsStep command options count action Help = prints (HelpOn command) ≡ action
IsStep command options count action (Files files) = run_action command options (words_of files.now) ≡ action
IsStep command options count action (Wrong fault) = ReportsMistake fault action

-- The front of arguments: a folder, behind which fewer words than this count request the same, or something else.
abbrev pub IsFront : (count : ℕ) → (words : List (List ℕ)) → Front → Type 0
IsFront count words (Dir dir others) =
    (length others.now < count) × (dirs_of words ≡ dir.now ∷ dirs_of (words_of others.now)) × (action_of (words_of others.now) ≡ action_of words)
IsFront count words Other = (dirs_of words ≡ []) × (first_action words ≡ action_of words)
IsFront count words (WrongFront fault) = ReportsMistake fault (action_of words)
