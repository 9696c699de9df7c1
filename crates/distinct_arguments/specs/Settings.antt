-- The values of a command's options.
use Rattle.std.specs.Prelude.{ℕ, ◌≤◌, ◌-◌, ◌==◌, ◌||◌, Bool, true, false, List, Option, Some, None, is_some, Result, Ok, Err}
use Rattle.std.specs.Prelude.{if◌then◌else◌}
use Rattle.std.specs.Option.{option_map, option_map_or, unwrap_or}
use Rattle.std.specs.Str.{all_ascii_digits}
use Rattle.sketch_base.specs.Seed.{seed_hash}
use Rattle.sketch_base.specs.declared.seed.TheConstants.{DEFAULT_UPDATE_SEED}
use Rattle.keys_lines.specs.declared.key.Key.{Key}
use Rattle.keys_lines.specs.declared.key.Key.TheVariants.{Line, Field as FieldKey}
use Rattle.estimates.specs.declared.bounds.Deviations.{Deviations}
use Rattle.estimates.specs.declared.bounds.Deviations.TheVariants.{Two}
use Rattle.distinct_arguments.specs.Words.{number_of, byte_of, deviations_of, order_of, mode_of}
use Rattle.distinct_arguments.specs.Precision.{size_of}
use Rattle.distinct_arguments.specs.Shares.{ShareNumbers, numbers_of, share_of}
use Rattle.distinct_arguments.specs.declared.commands.Command.{Command}
use Rattle.distinct_arguments.specs.declared.commands.Command.TheVariants.{Combine, Count, Show, Visits as VisitsCommand}
use Rattle.distinct_arguments.specs.declared.commands.Operator.TheVariants.{Meet, Minus}
use Rattle.distinct_arguments.specs.declared.options.Form.{Form}
use Rattle.distinct_arguments.specs.declared.options.Column.{Column}
use Rattle.distinct_arguments.specs.declared.options.Column.TheVariants as column
use Rattle.distinct_arguments.specs.declared.options.Order.{Order}
use Rattle.distinct_arguments.specs.declared.options.Mode.{Mode}
use Rattle.distinct_arguments.specs.declared.options.Mode.TheVariants.{Sum as SumMode}
use Rattle.distinct_arguments.specs.declared.options.Form.TheVariants.{Plain, Tsv as TsvForm, Json as JsonForm}
use Rattle.distinct_arguments.specs.declared.options.Seed.{Seed as SeedOf}
use Rattle.distinct_arguments.specs.declared.options.Seed.TheVariants.{Number as NumberSeed, File as FileSeed}
use Rattle.distinct_arguments.specs.declared.options.Options.{Options}
use Rattle.distinct_arguments.specs.declared.table.OptionName.{OptionName}
use Rattle.distinct_arguments.specs.declared.table.OptionName.TheVariants.{Field, Separator, Csv, Blanks, Crlf, Header, Value, Summary, Visits, Keys, Sums}
use Rattle.distinct_arguments.specs.declared.table.OptionName.TheVariants.{Hex, FileList, Part, Dir, LgK, Error, Seed, SeedFile, By}
use Rattle.distinct_arguments.specs.declared.table.OptionName.TheVariants.{Groups, Expect, Sort, Min, Top, Progress, Bounds, Tsv}
use Rattle.distinct_arguments.specs.declared.table.OptionName.TheVariants.{Json, Human, OutputDir, Output, Force, Quiet, PerFile, SkipInvalid}
use Rattle.distinct_arguments.specs.declared.table.Kind.{Kind}
use Rattle.distinct_arguments.specs.declared.table.Kind.TheVariants as kind
use Rattle.distinct_arguments.specs.Table.{kind_of}

-- the seed of hashes: a number, or the name of the file that has it
pub data SeedValue : Type 0 where
  seed_number : ℕ → SeedValue
  seed_file : (name : List ℕ) → SeedValue

-- the value of each option
pub record OptionValues : Type 0 where
  pub lg_k : ℕ
  pub field : Option ℕ
  pub field_text : Option (List ℕ)
  pub separator : Option ℕ
  pub csv : Bool
  pub blanks : Bool
  pub crlf : Bool
  pub header : Bool
  pub per_file : Bool
  pub by : Option ℕ
  pub by_text : Option (List ℕ)
  pub sort : Option Order
  pub least : Option ℕ
  pub most : Option ℕ
  pub value : Option ℕ
  pub value_text : Option (List ℕ)
  pub skip_invalid : Bool
  pub summary : Option Mode
  pub visits : Bool
  pub groups : Bool
  pub sums : Bool
  pub seed : SeedValue
  pub hex : Bool
  pub keys : Bool
  pub progress : Bool
  pub output : Option (List ℕ)
  pub folder : Option (List ℕ)
  pub list : Option (List ℕ)
  pub part : Option ShareNumbers
  pub dir : Option (List ℕ)
  pub expected : Option ℕ
  pub bounds : Option Deviations
  pub form : Form
  pub human : Bool
  pub force : Bool
  pub quiet : Bool

-- the default of `--lg-k`: 16 of commands that print counts, whose error is then within 0.4 %, and 12 of the others; 26 of those
-- without this option, whose unions of images drop no hash up to 2^26
abbrev pub default_lg_k : Command → ℕ
default_lg_k Count = 16
default_lg_k VisitsCommand = 16
default_lg_k Show = 26
default_lg_k (Combine Meet) = 26
default_lg_k (Combine Minus) = 26
default_lg_k _ = 12

-- the defaults
abbrev pub default_options : Command → OptionValues
default_options command = record {
  lg_k = default_lg_k command;
  field = None;
  field_text = None;
  separator = None;
  csv = false;
  blanks = false;
  crlf = false;
  header = false;
  per_file = false;
  by = None;
  by_text = None;
  sort = None;
  least = None;
  most = None;
  value = None;
  value_text = None;
  skip_invalid = false;
  summary = None;
  visits = false;
  groups = false;
  sums = false;
  seed = seed_number DEFAULT_UPDATE_SEED;
  hex = false;
  keys = false;
  progress = false;
  output = None;
  folder = None;
  list = None;
  part = None;
  dir = None;
  expected = None;
  bounds = None;
  form = Plain;
  human = false;
  force = false;
  quiet = false;
}

-- the byte between the fields of a line: by default a tab (9), also for fields that blanks separate, and the unit separator (31)
-- in the lines that records are read as
abbrev pub between : OptionValues → ℕ
between options = if options.csv then 31 else (if options.blanks then 9 else unwrap_or options.separator 9)

-- texts choose fields; each line is then read as its key, its group and its number, with the record separator (30) between two
abbrev pub has_texts : OptionValues → Bool
has_texts options = is_some options.field_text || is_some options.by_text || is_some options.value_text

-- the key that options choose: the field of their number, the first being 1, or the whole line
abbrev pub chosen_key : OptionValues → Key
chosen_key options = if has_texts options then FieldKey 0 30 else option_map_or (λ number. FieldKey (number - 1) (between options)) options.field Line

-- the key by which options group lines, if they do: the field of its number, the first being 1
abbrev pub chosen_group : OptionValues → Option Key
chosen_group options = option_map (λ number. if has_texts options then FieldKey 1 30 else FieldKey (number - 1) (between options)) options.by

-- the part of a line that has its number, if options choose one: the field of its number, the first being 1
abbrev pub chosen_value : OptionValues → Option Key
chosen_value options = option_map (λ number. if has_texts options then FieldKey 2 30 else FieldKey (number - 1) (between options)) options.value

-- how the numbers of a key are combined: by default they are added
abbrev pub chosen_mode : OptionValues → Mode
chosen_mode options = unwrap_or options.summary SumMode

-- why arguments are wrong
pub data Mistake : Type 0 where
  no_command : Mistake
  unknown_command : (word : List ℕ) → Mistake
  unknown_option : (name : List ℕ) → Mistake
  no_value : (name : List ℕ) → Mistake
  unneeded_value : (name : List ℕ) → Mistake
  wrong_value : (option : OptionName) → (value : List ℕ) → Mistake
  zero_seed : (number : ℕ) → Mistake
  not_one_expression : Mistake
  sum_needs_value : Mistake
  separator_needs_field : Mistake
  groups_need_output : Mistake
  needs_groups : (option : OptionName) → Mistake
  needs : (option other : OptionName) → Mistake
  excludes : (option other : OptionName) → Mistake
  list_excludes_files : Mistake
  standard_twice : Mistake
  output_is_input : (name : List ℕ) → Mistake

-- whether the seed is in a file
abbrev pub is_file : SeedValue → Bool
is_file (seed_number n) = false
is_file (seed_file name) = true

-- whether a form is that of `--tsv`, and that of `--json`
abbrev pub is_tsv : Form → Bool
is_tsv TsvForm = true
is_tsv _ = false

abbrev pub is_json : Form → Bool
is_json JsonForm = true
is_json _ = false

-- whether an option is given; of `--lg-k`, `--error` and `--seed`, whose defaults aren't marked, it is false
abbrev pub is_given : OptionValues → OptionName → Bool
is_given options Field = is_some options.field
is_given options Separator = is_some options.separator
is_given options Csv = options.csv
is_given options Blanks = options.blanks
is_given options Crlf = options.crlf
is_given options Header = options.header
is_given options PerFile = options.per_file
is_given options Value = is_some options.value
is_given options SkipInvalid = options.skip_invalid
is_given options Summary = is_some options.summary
is_given options Visits = options.visits
is_given options Keys = options.keys
is_given options Sums = options.sums
is_given options Hex = options.hex
is_given options FileList = is_some options.list
is_given options Part = is_some options.part
is_given options Dir = is_some options.dir
is_given options LgK = false
is_given options Error = false
is_given options Seed = false
is_given options SeedFile = is_file options.seed
is_given options By = is_some options.by
is_given options Groups = options.groups
is_given options Expect = is_some options.expected
is_given options Sort = is_some options.sort
is_given options Min = is_some options.least
is_given options Top = is_some options.most
is_given options Progress = options.progress
is_given options Bounds = is_some options.bounds
is_given options Tsv = is_tsv options.form
is_given options Json = is_json options.form
is_given options Human = options.human
is_given options OutputDir = is_some options.folder
is_given options Output = is_some options.output
is_given options Force = options.force
is_given options Quiet = options.quiet

-- the options after a flag
abbrev pub set_flag : OptionValues → OptionName → OptionValues
set_flag options Progress = record options { progress = true }
set_flag options Csv = record options { csv = true }
set_flag options Blanks = record options { blanks = true }
set_flag options Crlf = record options { crlf = true }
set_flag options Header = record options { header = true }
set_flag options PerFile = record options { per_file = true }
set_flag options SkipInvalid = record options { skip_invalid = true }
set_flag options Hex = record options { hex = true }
set_flag options Keys = record options { keys = true }
set_flag options Visits = record options { visits = true }
set_flag options Groups = record options { groups = true }
set_flag options Sums = record options { sums = true }
set_flag options Tsv = record options { form = TsvForm }
set_flag options Json = record options { form = JsonForm }
set_flag options Human = record options { human = true }
set_flag options Force = record options { force = true }
set_flag options Quiet = record options { quiet = true }
set_flag options _ = options

-- the options after an option whose value is a number
abbrev pub set_number : OptionValues → OptionName → ℕ → OptionValues
set_number options LgK n = record options { lg_k = n }
set_number options Expect n = record options { expected = Some n }
set_number options Min n = record options { least = Some n }
set_number options Top n = record options { most = Some n }
set_number options _ n = options

-- what chooses fields: a number, or a text that isn't one
pub data ColumnValue : Type 0 where
  numbered : ℕ → ColumnValue
  texted : List ℕ → ColumnValue

abbrev pub column_value : Column → ColumnValue
column_value (column.Number n) = numbered n
column_value (column.Text text) = texted text.now

-- the number that chooses a field, or 1; and the text that chooses fields, if one does
abbrev pub number_in : ColumnValue → ℕ
number_in (numbered n) = n
number_in (texted text) = 1

abbrev pub text_in : ColumnValue → Option (List ℕ)
text_in (numbered n) = None
text_in (texted text) = Some text

-- what a word chooses: a field from 1 to 2^32 - 1, or a text if it isn't all of digits
abbrev pub column_or : (word : List ℕ) → Option ℕ → Option ColumnValue
column_or word None = if all_ascii_digits word then None else Some (texted word)
column_or word (Some n) = Some (numbered n)

abbrev pub column_of : (word : List ℕ) → Option ColumnValue
column_of word = column_or word (number_of 1 4294967295 word)

-- the options after an option that chooses fields
abbrev pub set_column : OptionValues → OptionName → ColumnValue → OptionValues
set_column options Field c = record options { field = Some (number_in c); field_text = text_in c }
set_column options By c = record options { by = Some (number_in c); by_text = text_in c }
set_column options Value c = record options { value = Some (number_in c); value_text = text_in c }
set_column options _ c = options

-- the options after an option whose value may be any text
abbrev pub set_text : OptionValues → OptionName → (value : List ℕ) → OptionValues
set_text options SeedFile value = record options { seed = seed_file value }
set_text options FileList value = record options { list = Some value }
set_text options Output value = record options { output = Some value }
set_text options OutputDir value = record options { folder = Some value }
set_text options Dir value = record options { dir = Some value }
set_text options _ value = options

-- a number is one that options of a kind take
abbrev pub IsOfKind : Kind → ℕ → Type 0
IsOfKind (kind.Number least greatest) n = (least ≤ n) × (n ≤ greatest)
IsOfKind _ n = ⊥

-- the options after an option of a kind without a value, if it needs none
abbrev pub flag_of : Kind → OptionValues → OptionName → Option OptionValues
flag_of kind.Flag options option = Some (set_flag options option)
flag_of kind.Deviations options option = Some (record options { bounds = Some Two })
flag_of _ options option = None

abbrev pub with_flag : OptionValues → OptionName → Option OptionValues
with_flag options option = flag_of (kind_of option) options option

-- the options with a value that was read, or what is wrong with it
abbrev pub value_or : {X : Type 0} → Mistake → (X → OptionValues) → Option X → Result OptionValues Mistake
value_or mistake changed None = Err mistake
value_or mistake changed (Some x) = Ok (changed x)

-- the seed that a word spells: a number whose seed hash isn't 0
abbrev pub seed_or : (word : List ℕ) → (number : Option ℕ) → Result ℕ Mistake
seed_or word None = Err (wrong_value Seed word)
seed_or word (Some number) = if seed_hash number == 0 then Err (zero_seed number) else Ok number

abbrev pub seed_in : (word : List ℕ) → Result ℕ Mistake
seed_in word = seed_or word (number_of 0 18446744073709551615 word)

-- the options with the seed that a word spells
abbrev pub with_seed : OptionValues → Result ℕ Mistake → Result OptionValues Mistake
with_seed options (Ok number) = Ok (record options { seed = seed_number number })
with_seed options (Err mistake) = Err mistake

-- a value, or a mistake if there is none
abbrev pub given_or : {X : Type 0} → Mistake → Option X → Result X Mistake
given_or mistake None = Err mistake
given_or mistake (Some x) = Ok x

-- the options after an option of a kind and this name, and its value, which replaces an earlier one
abbrev pub value_of : Kind → OptionValues → OptionName → (name value : List ℕ) → Result OptionValues Mistake
value_of kind.Flag options option name value = Err (unneeded_value name)
value_of (kind.Number least greatest) options option name value =
    value_or (wrong_value option value) (λ n. set_number options option n) (number_of least greatest value)
value_of kind.Columns options option name value = value_or (wrong_value option value) (λ c. set_column options option c) (column_of value)
value_of kind.Byte options option name value = value_or (wrong_value option value) (λ byte. record options { separator = Some byte }) (byte_of value)
value_of kind.Seed options option name value = with_seed options (seed_in value)
value_of kind.Deviations options option name value = value_or (wrong_value option value) (λ d. record options { bounds = Some d }) (deviations_of value)
value_of kind.Order options option name value = value_or (wrong_value option value) (λ order. record options { sort = Some order }) (order_of value)
value_of kind.Percent options option name value = value_or (wrong_value option value) (λ size. record options { lg_k = size }) (size_of value)
value_of kind.Share options option name value = value_or (wrong_value option value) (λ share. record options { part = Some share }) (share_of value)
value_of kind.Mode options option name value = value_or (wrong_value option value) (λ mode. record options { summary = Some mode }) (mode_of value)
value_of kind.Text options option name value = Ok (set_text options option value)

abbrev pub with_value : OptionValues → OptionName → (name value : List ℕ) → Result OptionValues Mistake
with_value options option name value = value_of (kind_of option) options option name value

-- the values that options have
abbrev pub seed_value : SeedOf → SeedValue
seed_value (NumberSeed n) = seed_number n
seed_value (FileSeed name) = seed_file name.now

abbrev pub options_of : Options → OptionValues
options_of o = record {
  lg_k = o.lg_k;
  field = o.field;
  field_text = option_map (λ text. text.now) o.field_text;
  separator = o.separator;
  csv = o.csv;
  blanks = o.blanks;
  crlf = o.crlf;
  header = o.header;
  per_file = o.per_file;
  by = o.by;
  by_text = option_map (λ text. text.now) o.by_text;
  sort = o.sort;
  least = o.least;
  most = o.most;
  value = o.value;
  value_text = option_map (λ text. text.now) o.value_text;
  skip_invalid = o.skip_invalid;
  summary = o.summary;
  visits = o.visits;
  groups = o.groups;
  sums = o.sums;
  seed = seed_value o.seed;
  hex = o.hex;
  keys = o.keys;
  progress = o.progress;
  output = option_map (λ name. name.now) o.output;
  folder = option_map (λ name. name.now) o.folder;
  list = option_map (λ name. name.now) o.list;
  part = option_map numbers_of o.part;
  dir = option_map (λ name. name.now) o.dir;
  expected = o.expected;
  bounds = o.bounds;
  form = o.form;
  human = o.human;
  force = o.force;
  quiet = o.quiet;
}
