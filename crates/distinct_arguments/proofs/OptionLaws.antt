-- Laws of the table of options.
use Rattle.std.proofs.Common.{◌≡◌, ℕ, Bool, true, false, List, [], ◌∷◌, length, codes, Option, Some, None, IfSome, Result, Ok, Err, refl, ap, sym, ◌∙◌, subst}
use Rattle.std.specs.List.{filter}
use Rattle.std.specs.Str.{bytes_eq}
use Rattle.estimates.specs.declared.bounds.Deviations.{Deviations}
use Rattle.distinct_arguments.specs.Words.{number_of, byte_of, deviations_of, order_of, mode_of, is_help, is_option, split_option}
use Rattle.distinct_arguments.specs.Precision.{size_of}
use Rattle.distinct_arguments.specs.Shares.{ShareNumbers, share_of}
use Rattle.distinct_arguments.specs.Table.{rows, has_row, option_of, name_of, short_of, kind_of}
use Rattle.distinct_arguments.specs.Settings.{OptionValues, Mistake, seed_number, unknown_option, wrong_value, seed_in, value_or, with_seed}
use Rattle.distinct_arguments.specs.Settings.{ColumnValue, column_of, set_column, set_number, set_text, value_of, with_value}
use Rattle.distinct_arguments.specs.Arguments.{fails, run_action, command_action}
use Rattle.distinct_arguments.specs.Texts.{ListsOptions}
use Rattle.distinct_arguments.specs.declared.commands.Command.{Command}
use Rattle.distinct_arguments.specs.declared.commands.Command.TheVariants as command
use Rattle.distinct_arguments.specs.declared.commands.Operator.TheVariants as operator
use Rattle.distinct_arguments.specs.declared.options.Order.{Order}
use Rattle.distinct_arguments.specs.declared.options.Mode.{Mode}
use Rattle.distinct_arguments.specs.declared.table.Kind.{Kind}
use Rattle.distinct_arguments.specs.declared.table.Kind.TheVariants as kind
use Rattle.distinct_arguments.specs.declared.table.OptionName.{OptionName}
use Rattle.distinct_arguments.specs.declared.table.OptionName.TheVariants as o

-- each option is in the table once
pub once : (option : OptionName) → length (filter (has_row option) rows) ≡ 1
unfolding rows
once o.Field = refl
once o.Separator = refl
once o.Csv = refl
once o.Blanks = refl
once o.Crlf = refl
once o.Header = refl
once o.PerFile = refl
once o.Value = refl
once o.SkipInvalid = refl
once o.Summary = refl
once o.Visits = refl
once o.Keys = refl
once o.Sums = refl
once o.Hex = refl
once o.FileList = refl
once o.Part = refl
once o.Dir = refl
once o.LgK = refl
once o.Error = refl
once o.Seed = refl
once o.SeedFile = refl
once o.By = refl
once o.Groups = refl
once o.Expect = refl
once o.Sort = refl
once o.Min = refl
once o.Top = refl
once o.Progress = refl
once o.Bounds = refl
once o.Tsv = refl
once o.Json = refl
once o.Human = refl
once o.OutputDir = refl
once o.Output = refl
once o.Force = refl
once o.Quiet = refl

-- and is that of its name, and of its short name
pub named : (option : OptionName) → option_of (name_of option) ≡ Some option
unfolding rows
named o.Field = refl
named o.Separator = refl
named o.Csv = refl
named o.Blanks = refl
named o.Crlf = refl
named o.Header = refl
named o.PerFile = refl
named o.Value = refl
named o.SkipInvalid = refl
named o.Summary = refl
named o.Visits = refl
named o.Keys = refl
named o.Sums = refl
named o.Hex = refl
named o.FileList = refl
named o.Part = refl
named o.Dir = refl
named o.LgK = refl
named o.Error = refl
named o.Seed = refl
named o.SeedFile = refl
named o.By = refl
named o.Groups = refl
named o.Expect = refl
named o.Sort = refl
named o.Min = refl
named o.Top = refl
named o.Progress = refl
named o.Bounds = refl
named o.Tsv = refl
named o.Json = refl
named o.Human = refl
named o.OutputDir = refl
named o.Output = refl
named o.Force = refl
named o.Quiet = refl

pub short_named : (option : OptionName) → IfSome (short_of option) (λ name. option_of name ≡ Some option)
unfolding rows
short_named o.Field = refl
short_named o.Separator = refl
short_named o.Csv = tt
short_named o.Blanks = tt
short_named o.Crlf = tt
short_named o.Header = tt
short_named o.PerFile = tt
short_named o.Value = tt
short_named o.SkipInvalid = tt
short_named o.Summary = tt
short_named o.Visits = tt
short_named o.Keys = tt
short_named o.Sums = tt
short_named o.Hex = tt
short_named o.FileList = tt
short_named o.Part = tt
short_named o.Dir = tt
short_named o.LgK = refl
short_named o.Error = tt
short_named o.Seed = tt
short_named o.SeedFile = tt
short_named o.By = tt
short_named o.Groups = tt
short_named o.Expect = tt
short_named o.Sort = tt
short_named o.Min = tt
short_named o.Top = tt
short_named o.Progress = tt
short_named o.Bounds = tt
short_named o.Tsv = tt
short_named o.Json = tt
short_named o.Human = tt
short_named o.OutputDir = tt
short_named o.Output = refl
short_named o.Force = tt
short_named o.Quiet = refl

-- the help of each command lists its options, and no others
listed_count : ListsOptions command.Count
unfolding rows
listed_count = refl

listed_sketch : ListsOptions command.Sketch
unfolding rows
listed_sketch = refl

listed_union : ListsOptions (command.Combine operator.Union)
unfolding rows
listed_union = refl

listed_meet : ListsOptions (command.Combine operator.Meet)
unfolding rows
listed_meet = refl

listed_minus : ListsOptions (command.Combine operator.Minus)
unfolding rows
listed_minus = refl

listed_show : ListsOptions command.Show
unfolding rows
listed_show = refl

listed_eval : ListsOptions command.Eval
unfolding rows
listed_eval = refl

listed_visits : ListsOptions command.Visits
unfolding rows
listed_visits = refl

listed_sum : ListsOptions command.Sum
unfolding rows
listed_sum = refl

listed_similarity : ListsOptions command.Similarity
unfolding rows
listed_similarity = refl

listed_matrix : ListsOptions command.Matrix
unfolding rows
listed_matrix = refl

pub listed : (c : Command) → ListsOptions c
listed command.Count = listed_count
listed command.Sketch = listed_sketch
listed (command.Combine operator.Union) = listed_union
listed (command.Combine operator.Meet) = listed_meet
listed (command.Combine operator.Minus) = listed_minus
listed command.Show = listed_show
listed command.Eval = listed_eval
listed command.Visits = listed_visits
listed command.Sum = listed_sum
listed command.Similarity = listed_similarity
listed command.Matrix = listed_matrix

-- a number, a text and a seed that replace others
last_number : (options : OptionValues) (option : OptionName) (m n : ℕ) → set_number (set_number options option m) option n ≡ set_number options option n
last_number options o.Field m n = refl
last_number options o.Separator m n = refl
last_number options o.Csv m n = refl
last_number options o.Blanks m n = refl
last_number options o.Crlf m n = refl
last_number options o.Header m n = refl
last_number options o.PerFile m n = refl
last_number options o.Value m n = refl
last_number options o.SkipInvalid m n = refl
last_number options o.Summary m n = refl
last_number options o.Visits m n = refl
last_number options o.Keys m n = refl
last_number options o.Sums m n = refl
last_number options o.Hex m n = refl
last_number options o.FileList m n = refl
last_number options o.Part m n = refl
last_number options o.Dir m n = refl
last_number options o.LgK m n = refl
last_number options o.Error m n = refl
last_number options o.Seed m n = refl
last_number options o.SeedFile m n = refl
last_number options o.By m n = refl
last_number options o.Groups m n = refl
last_number options o.Expect m n = refl
last_number options o.Sort m n = refl
last_number options o.Min m n = refl
last_number options o.Top m n = refl
last_number options o.Progress m n = refl
last_number options o.Bounds m n = refl
last_number options o.Tsv m n = refl
last_number options o.Json m n = refl
last_number options o.Human m n = refl
last_number options o.OutputDir m n = refl
last_number options o.Output m n = refl
last_number options o.Force m n = refl
last_number options o.Quiet m n = refl

last_text : (options : OptionValues) (option : OptionName) (m n : List ℕ) → set_text (set_text options option m) option n ≡ set_text options option n
last_text options o.Field m n = refl
last_text options o.Separator m n = refl
last_text options o.Csv m n = refl
last_text options o.Blanks m n = refl
last_text options o.Crlf m n = refl
last_text options o.Header m n = refl
last_text options o.PerFile m n = refl
last_text options o.Value m n = refl
last_text options o.SkipInvalid m n = refl
last_text options o.Summary m n = refl
last_text options o.Visits m n = refl
last_text options o.Keys m n = refl
last_text options o.Sums m n = refl
last_text options o.Hex m n = refl
last_text options o.FileList m n = refl
last_text options o.Part m n = refl
last_text options o.Dir m n = refl
last_text options o.LgK m n = refl
last_text options o.Error m n = refl
last_text options o.Seed m n = refl
last_text options o.SeedFile m n = refl
last_text options o.By m n = refl
last_text options o.Groups m n = refl
last_text options o.Expect m n = refl
last_text options o.Sort m n = refl
last_text options o.Min m n = refl
last_text options o.Top m n = refl
last_text options o.Progress m n = refl
last_text options o.Bounds m n = refl
last_text options o.Tsv m n = refl
last_text options o.Json m n = refl
last_text options o.Human m n = refl
last_text options o.OutputDir m n = refl
last_text options o.Output m n = refl
last_text options o.Force m n = refl
last_text options o.Quiet m n = refl

last_column : (options : OptionValues) (option : OptionName) (m n : ColumnValue) → set_column (set_column options option m) option n ≡ set_column options option n
last_column options o.Field m n = refl
last_column options o.Separator m n = refl
last_column options o.Csv m n = refl
last_column options o.Blanks m n = refl
last_column options o.Crlf m n = refl
last_column options o.Header m n = refl
last_column options o.PerFile m n = refl
last_column options o.Value m n = refl
last_column options o.SkipInvalid m n = refl
last_column options o.Summary m n = refl
last_column options o.Visits m n = refl
last_column options o.Keys m n = refl
last_column options o.Sums m n = refl
last_column options o.Hex m n = refl
last_column options o.FileList m n = refl
last_column options o.Part m n = refl
last_column options o.Dir m n = refl
last_column options o.LgK m n = refl
last_column options o.Error m n = refl
last_column options o.Seed m n = refl
last_column options o.SeedFile m n = refl
last_column options o.By m n = refl
last_column options o.Groups m n = refl
last_column options o.Expect m n = refl
last_column options o.Sort m n = refl
last_column options o.Min m n = refl
last_column options o.Top m n = refl
last_column options o.Progress m n = refl
last_column options o.Bounds m n = refl
last_column options o.Tsv m n = refl
last_column options o.Json m n = refl
last_column options o.Human m n = refl
last_column options o.OutputDir m n = refl
last_column options o.Output m n = refl
last_column options o.Force m n = refl
last_column options o.Quiet m n = refl

abbrev value_in : OptionValues → Result OptionValues Mistake → OptionValues
value_in options (Ok values) = values
value_in options (Err mistake) = options

-- a value that replaces another
last_read : {X : Type 0} (change : OptionValues → X → OptionValues) → ((o : OptionValues) (x y : X) → change (change o x) y ≡ change o y)
    → (read more : Option X) (bad worse : Mistake) (options between : OptionValues)
    → value_or bad (change options) read ≡ Ok between → value_or worse (change between) more ≡ value_or worse (change options) more
last_read change twice None more bad worse options between is = absurd cc
last_read change twice (Some x) None bad worse options between is = refl
last_read change twice (Some x) (Some y) bad worse options between is =
    ap Ok (ap (λ (b : OptionValues). change b y) (sym (ap (value_in options) is)) ∙ twice options x y)

abbrev set_separator : OptionValues → ℕ → OptionValues
set_separator options byte = record options { separator = Some byte }

abbrev set_bounds : OptionValues → Deviations → OptionValues
set_bounds options d = record options { bounds = Some d }

abbrev set_sort : OptionValues → Order → OptionValues
set_sort options order = record options { sort = Some order }

abbrev set_mode : OptionValues → Mode → OptionValues
set_mode options mode = record options { summary = Some mode }

abbrev set_size : OptionValues → ℕ → OptionValues
set_size options n = record options { lg_k = n }

abbrev set_part : OptionValues → ShareNumbers → OptionValues
set_part options share = record options { part = Some share }

abbrev set_seed : OptionValues → ℕ → OptionValues
set_seed options n = record options { seed = seed_number n }

last_seed : (read more : Result ℕ Mistake) (options between : OptionValues) → with_seed options read ≡ Ok between → with_seed between more ≡ with_seed options more
last_seed (Err mistake) more options between is = absurd cc
last_seed (Ok m) (Err mistake) options between is = refl
last_seed (Ok m) (Ok n) options between is = ap Ok (ap (λ (b : OptionValues). set_seed b n) (sym (ap (value_in options) is)))

last_of_kind : (k : Kind) (options between : OptionValues) (option : OptionName) (name other first last : List ℕ)
    → value_of k options option name first ≡ Ok between → value_of k between option other last ≡ value_of k options option other last
last_of_kind kind.Flag options between option name other first last is = refl
last_of_kind (kind.Number least greatest) options between option name other first last is =
    last_read (λ o n. set_number o option n) (λ o m n. last_number o option m n) (number_of least greatest first) (number_of least greatest last) (wrong_value option first) (wrong_value option last) options between is
last_of_kind kind.Columns options between option name other first last is =
    last_read (λ o c. set_column o option c) (λ o m n. last_column o option m n) (column_of first) (column_of last) (wrong_value option first) (wrong_value option last) options between is
last_of_kind kind.Byte options between option name other first last is =
    last_read set_separator (λ o m n. refl) (byte_of first) (byte_of last) (wrong_value option first) (wrong_value option last) options between is
last_of_kind kind.Seed options between option name other first last is = last_seed (seed_in first) (seed_in last) options between is
last_of_kind kind.Deviations options between option name other first last is =
    last_read set_bounds (λ o m n. refl) (deviations_of first) (deviations_of last) (wrong_value option first) (wrong_value option last) options between is
last_of_kind kind.Order options between option name other first last is =
    last_read set_sort (λ o m n. refl) (order_of first) (order_of last) (wrong_value option first) (wrong_value option last) options between is
last_of_kind kind.Mode options between option name other first last is =
    last_read set_mode (λ o m n. refl) (mode_of first) (mode_of last) (wrong_value option first) (wrong_value option last) options between is
last_of_kind kind.Percent options between option name other first last is =
    last_read set_size (λ o m n. refl) (size_of first) (size_of last) (wrong_value option first) (wrong_value option last) options between is
last_of_kind kind.Share options between option name other first last is =
    last_read set_part (λ o m n. refl) (share_of first) (share_of last) (wrong_value option first) (wrong_value option last) options between is
last_of_kind kind.Text options between option name other first last is =
    ap Ok (ap (λ (b : OptionValues). set_text b option last) (sym (ap (value_in options) is)) ∙ last_text options option first last)

-- of two values the last counts
pub last_counts : (options between : OptionValues) (option : OptionName) (name other first last : List ℕ)
    → with_value options option name first ≡ Ok between → with_value between option other last ≡ with_value options option other last
last_counts options between option name other first last is = last_of_kind (kind_of option) options between option name other first last is

-- `--` ends the options
pub ended : (c : Command) (options : OptionValues) (words : List (List ℕ)) → command_action c options None (codes "--" ∷ words) ≡ run_action c options words
ended c options words = refl

-- a word that looks like an option and is none
pub refused_unknown : (c : Command) (options : OptionValues) (word : List ℕ) (words : List (List ℕ))
    → bytes_eq word (codes "--") ≡ false → is_option word ≡ true → is_help (split_option word).name ≡ false → option_of (split_option word).name ≡ None
    → command_action c options None (word ∷ words) ≡ fails (unknown_option (split_option word).name)
refused_unknown c options word words no_end is no_help unknown = rw (no_end, is, no_help, unknown) refl
