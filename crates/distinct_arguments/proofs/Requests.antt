-- Laws of whole arguments.
use Rattle.std.proofs.Common.{◌≡◌, ℕ, Bool, true, false, cond, List, [], ◌∷◌, codes, length, Option, Some, None, Result, Ok, Err, refl, arith}
use Rattle.std.specs.Prelude.{◌&&◌, ◌==◌, not, nat_lt, is_some, is_none}
use Rattle.std.specs.Option.{option_map_or}
use Rattle.std.specs.Str.{bytes_eq}
use Rattle.std.proofs.lemmas.Bool.Decides.{nat_tests}
use Rattle.distinct_arguments.specs.Commands.{command_of}
use Rattle.distinct_arguments.specs.Words.{is_help, is_version, is_dir, is_option, split_option}
use Rattle.distinct_arguments.specs.Settings.{OptionValues, default_options, Mistake, standard_twice, with_value}
use Rattle.distinct_arguments.specs.Arguments.{Action, runs, fails, Awaiting, Meaning, help, sets, awaits, wrong, setting_meaning, standard_uses, has_one_expression, lacks_value, broken, listed_action, run_action, at_meaning, at_value, command_action, first_action, Placed, within, placed_action, action_of, ReadsOnce}
use Rattle.distinct_arguments.specs.declared.commands.Command.{Command}

-- what runs at the end of two tests and a third
at_tests : (lone both : Bool) (a b run : Action) → ReadsOnce a → ReadsOnce b → ReadsOnce run → ReadsOnce (cond lone a (cond both b run))
at_tests true both a b run first second third = first
at_tests false true a b run first second third = second
at_tests false false a b run first second third = third

at_list : (both : Bool) (a run : Action) → ReadsOnce a → ReadsOnce run → ReadsOnce (cond both a run)
at_list true a run first second = first
at_list false a run first second = second

run_once : (command : Command) (options : OptionValues) (files : List (List ℕ)) (twice : Bool) → nat_lt 1 (standard_uses command options files) ≡ twice → ReadsOnce (cond twice (fails standard_twice) (runs command options files))
run_once command options files true is = tt
run_once command options files false is = grind (arith, nat_tests)

once_listed : (command : Command) (options : OptionValues) (files : List (List ℕ)) → ReadsOnce (listed_action command options files)
once_listed command options files =
    at_list (is_some options.list && not (length files == 0)) _ _ tt (run_once command options files (nat_lt 1 (standard_uses command options files)) refl)

at_broken : (found : Option Mistake) (run : Action) → ReadsOnce run → ReadsOnce (option_map_or (λ mistake. fails mistake) found run)
at_broken None run once = once
at_broken (Some mistake) run once = tt

once_run : (command : Command) (options : OptionValues) (files : List (List ℕ)) → ReadsOnce (run_action command options files)
once_run command options files =
    at_tests (not (has_one_expression command files)) (lacks_value command options) _ _ _ tt tt
    (at_broken (broken command options) (listed_action command options files) (once_listed command options files))

at_any : (command : Command) (m : Meaning) (at_sets : OptionValues → Action) (at_awaits : Awaiting → Action) → ((o : OptionValues) → ReadsOnce (at_sets o)) → ((a : Awaiting) → ReadsOnce (at_awaits a)) → ReadsOnce (at_meaning command m at_sets at_awaits)
at_any command help at_sets at_awaits all_sets all_awaits = tt
at_any command (sets options) at_sets at_awaits all_sets all_awaits = all_sets options
at_any command (awaits awaiting) at_sets at_awaits all_sets all_awaits = all_awaits awaiting
at_any command (wrong mistake) at_sets at_awaits all_sets all_awaits = tt

at_result : (w : Result OptionValues Mistake) (next : OptionValues → Action) → ((o : OptionValues) → ReadsOnce (next o)) → ReadsOnce (at_value w next)
at_result (Ok options) next all = all options
at_result (Err mistake) next all = tt

at_front : (end option : Bool) (a b c : Action) → ReadsOnce a → ReadsOnce b → ReadsOnce c → ReadsOnce (cond end a (cond (not option) b c))
at_front true option a b c first second third = first
at_front false true a b c first second third = third
at_front false false a b c first second third = second

once_command : (command : Command) (options : OptionValues) (pending : Option Awaiting) (words : List (List ℕ)) → ReadsOnce (command_action command options pending words)
once_command command options None [] = once_run command options []
once_command command options None (word ∷ words) =
    at_front (bytes_eq word (codes "--")) (is_option word) _ _ _ (once_run command options words)
    (once_run command options (word ∷ words))
    (at_any command (setting_meaning command options (split_option word)) (λ next. command_action command next None words) (λ awaiting. command_action command options (Some awaiting) words)
    (λ next. once_command command next None words) (λ awaiting. once_command command options (Some awaiting) words))
once_command command options (Some awaiting) [] = tt
once_command command options (Some awaiting) (value ∷ words) =
    at_result (with_value options awaiting.option awaiting.name value) (λ next. command_action command next None words) (λ next. once_command command next None words)

at_first : (asks version : Bool) (a b run : Action) → ReadsOnce a → ReadsOnce b → ReadsOnce run → ReadsOnce (cond asks a (cond version b run))
at_first true version a b run first second third = first
at_first false true a b run first second third = second
at_first false false a b run first second third = third

at_command : (found : Option Command) (next : Command → Action) (none : Action) → ((c : Command) → ReadsOnce (next c)) → ReadsOnce none → ReadsOnce (option_map_or next found none)
at_command None next none all once = once
at_command (Some command) next none all once = all command

once_first : (words : List (List ℕ)) → ReadsOnce (first_action words)
once_first [] = tt
once_first (word ∷ words) =
    at_first (is_help word) (is_version word) _ _ _ tt tt
    (at_command (command_of word) (λ command. command_action command (default_options command) None words) _ (λ command. once_command command (default_options command) None words) tt)

at_front_dir : (other : Bool) (found : Option (List ℕ)) (a b next : Placed) → ReadsOnce a.action → ReadsOnce b.action → ReadsOnce next.action
    → ReadsOnce (cond other a (option_map_or (λ dir. within dir next) found b)).action
at_front_dir true found a b next first second third = first
at_front_dir false None a b next first second third = second
at_front_dir false (Some dir) a b next first second third = third

once_placed : (pending : Option (List ℕ)) (words : List (List ℕ)) → ReadsOnce (placed_action pending words).action
once_placed None [] = tt
once_placed None (word ∷ words) =
    at_front_dir (not (is_dir (split_option word).name)) (split_option word).value _ _ _
    (once_first (word ∷ words)) (once_placed (Some (split_option word).name) words) (once_placed None words)
once_placed (Some name) [] = tt
once_placed (Some name) (dir ∷ words) = once_placed None words

-- no request reads standard input twice
pub once_action : (words : List (List ℕ)) → ReadsOnce (action_of words)
once_action words = once_placed None words
