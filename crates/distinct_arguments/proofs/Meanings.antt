-- What words mean in front of others.
use Rattle.std.proofs.Common.{◌≡◌, ℕ, ◌+◌, Bool, true, false, cond, List, [], ◌∷◌, codes, length, Option, Some, None, Result, Ok, Err, refl, ap, sym, ◌∙◌, subst, arith}
use Rattle.std.specs.Prelude.{not}
use Rattle.std.specs.Str.{bytes_eq}
use Rattle.distinct_arguments.specs.Words.{is_option, is_standard, Setting, split_option}
use Rattle.distinct_arguments.specs.Settings.{OptionValues, Mistake, no_value, with_value}
use Rattle.distinct_arguments.specs.Arguments.{Action, fails, Awaiting, Meaning, help, sets, awaits, wrong, setting_meaning, value_meaning, at_meaning, at_value, standard_files, command_action}
use Rattle.distinct_arguments.specs.Faults.{options_of, ReportsMistake, SetsOptions, IsWrong}
use Rattle.distinct_arguments.specs.declared.commands.Command.{Command}
use Rattle.distinct_arguments.specs.declared.fault.Fault.{Fault}
use Rattle.distinct_arguments.specs.declared.options.Options.{Options}

-- the last of three choices
last_of : (end option : Bool) (a b c : Action) → end ≡ false → option ≡ true → cond end a (cond (not option) b c) ≡ c
last_of end option a b c no_end is = rw (no_end, is) refl

-- an option's name and its value are all of it
setting_is : (s : Setting) (name : List ℕ) (value : Option (List ℕ)) → name ≡ s.name → value ≡ s.value → ◌≡◌ {A = Setting} (record { name = name; value = value }) s
setting_is s name value n v = λ i. record { name = n i; value = v i }

module _ (command : Command) (options : OptionValues) (word : List ℕ) (others : List (List ℕ)) (no_end : bytes_eq word (codes "--") ≡ false) (no_file : is_option word ≡ true) where
  -- what the program does by an option's meaning
  pub meaning_action : (name : List ℕ) (value : Option (List ℕ)) (m : Meaning) → name ≡ (split_option word).name → value ≡ (split_option word).value
      → m ≡ setting_meaning command options (record { name = name; value = value })
      → at_meaning command m (λ next. command_action command next None others) (λ awaiting. command_action command options (Some awaiting) others) ≡ command_action command options None (word ∷ others)
  meaning_action name value m n v is =
      ap (λ (x : Meaning). at_meaning command x (λ next. command_action command next None others) (λ awaiting. command_action command options (Some awaiting) others)) (is ∙ ap (setting_meaning command options) (setting_is (split_option word) name value n v))
      ∙ sym (last_of (bytes_eq word (codes "--")) (is_option word) _ _ _ no_end no_file)

-- a meaning that is wrong
wrong_at : (command : Command) (m : Meaning) (e : Fault) (at_sets : OptionValues → Action) (at_awaits : Awaiting → Action) → IsWrong e m → ReportsMistake e (at_meaning command m at_sets at_awaits)
wrong_at command help e at_sets at_awaits is = absurd is
wrong_at command (sets options) e at_sets at_awaits is = absurd is
wrong_at command (awaits awaiting) e at_sets at_awaits is = absurd is
wrong_at command (wrong mistake) e at_sets at_awaits is = is

pub wrong_action : (command : Command) (options : OptionValues) (word : List ℕ) (others : List (List ℕ)) (no_end : bytes_eq word (codes "--") ≡ false) (no_file : is_option word ≡ true) (name : List ℕ) (value : Option (List ℕ)) (e : Fault) → name ≡ (split_option word).name → value ≡ (split_option word).value
    → IsWrong e (setting_meaning command options (record { name = name; value = value })) → ReportsMistake e (command_action command options None (word ∷ others))
wrong_action command options word others no_end no_file name value e n v is =
    subst (ReportsMistake e) (meaning_action command options word others no_end no_file name value (setting_meaning command options (record { name = name; value = value })) n v refl) (wrong_at command (setting_meaning command options (record { name = name; value = value })) e _ _ is)

-- the value of an option, if it is right or wrong, and if there is none
pub accepted_at : (w : Result OptionValues Mistake) (options : Options) (next : OptionValues → Action) → SetsOptions (Ok options) w → next (options_of options) ≡ at_value w next
accepted_at (Ok values) options next is = ap next is
accepted_at (Err mistake) options next is = absurd is

pub refused_at : (w : Result OptionValues Mistake) (e : Fault) (next : OptionValues → Action) → SetsOptions (Err e) w → ReportsMistake e (at_value w next)
refused_at (Ok values) e next is = absurd is
refused_at (Err mistake) e next is = is

pub missing_at : (command : Command) (options : OptionValues) (awaiting : Awaiting) (words : List (List ℕ)) → length words ≡ 0 → fails (no_value awaiting.name) ≡ command_action command options (Some awaiting) words
missing_at command options awaiting [] none = refl
missing_at command options awaiting (word ∷ words) none = absurd (omega arith)

-- what the program does by an option's value
pub value_action : (command : Command) (options : OptionValues) (awaiting : Awaiting) (words : List (List ℕ)) (value seen : List ℕ) (rest : List (List ℕ)) → words ≡ value ∷ rest → seen ≡ value
    → at_value (with_value options awaiting.option awaiting.name seen) (λ next. command_action command next None rest) ≡ command_action command options (Some awaiting) words
value_action command options awaiting words value seen rest parted same =
    ap (λ (v : List ℕ). at_value (with_value options awaiting.option awaiting.name v) (λ next. command_action command next None rest)) same
    ∙ ap (command_action command options (Some awaiting)) (sym parted)

-- one more use of standard input
pub use_counted : (file : List ℕ) (left others : List (List ℕ)) (count one total : ℕ) → left ≡ file ∷ others → one ≡ cond (is_standard file) 1 0 → count + standard_files left ≡ total → (count + one) + standard_files others ≡ total
use_counted file left others count one total parted is all =
    let e : count + (cond (is_standard file) 1 0 + standard_files others) ≡ total = ap (λ (ws : List (List ℕ)). count + standard_files ws) (sym parted) ∙ all in
    omega (arith, e, is)

pub none_left : (left : List (List ℕ)) (count total : ℕ) → length left ≡ 0 → count + standard_files left ≡ total → count ≡ total
none_left [] count total none all = omega (arith, all)
none_left (file ∷ left) count total none all = absurd (omega arith)

-- what a value that is right or wrong means
pub meant_at : (w : Result OptionValues Mistake) (options : Options) → SetsOptions (Ok options) w → sets (options_of options) ≡ value_meaning w
meant_at (Ok values) options is = ap sets is
meant_at (Err mistake) options is = absurd is

pub wrongly_at : (w : Result OptionValues Mistake) (e : Fault) → SetsOptions (Err e) w → IsWrong e (value_meaning w)
wrongly_at (Ok values) e is = absurd is
wrongly_at (Err mistake) e is = is
