-- When a command fails.
use Rattle.std.specs.Prelude.{ℕ, ◌≡◌, ◌≢◌, ◌<◌, ◌⊎◌, ⊤, Bool, true, false, List, [], ◌∷◌, length, Option, Some, IfSome}
use Rattle.std.specs.Prelude.{codes, string_bytes}
use Rattle.std.specs.Option.{option_map}
use Rattle.core_compact.specs.CompactState.{Compact}
use Rattle.core_slots.specs.declared.entry.TupleEntry.{TupleEntry}
use Rattle.tuple_sketches.specs.declared.numbers.SummaryMode.{SummaryMode}
use Rattle.keys_sums.specs.Images.{AreReadSums}
use Rattle.expression_text.specs.Grammar.{IsExpressionText, SpellsNothing}
use Rattle.expression_text.specs.declared.operator.Step.{Step}
use Rattle.expression_evaluation.specs.Values.{sum_rules}
use Rattle.expression_evaluation.specs.Running.{sums_values, MayRefuse}
use Rattle.distinct_arguments.specs.Arguments.{Action, prints, runs, fails}
use Rattle.distinct_arguments.specs.Settings.{OptionValues, chosen_group}
use Rattle.distinct_arguments.specs.declared.commands.Command.{Command}
use Rattle.distinct_arguments.specs.declared.commands.Command.TheVariants.{Count, Sketch, Combine, Show, Eval}
use Rattle.distinct_arguments.specs.declared.commands.Command.TheVariants.{Visits, Sum, Similarity, Matrix}
use Rattle.distinct_arguments.specs.declared.commands.Operator.{Operator}
use Rattle.distinct_arguments.specs.declared.commands.Operator.TheVariants.{Union, Meet, Minus}
use Rattle.distinct_arguments.specs.declared.fault.Fault.TheVariants.{NotOneExpression}
use Rattle.keys_groups.specs.declared.united.LineFlaw.TheVariants.{NoTab as NoTabAtAll, NoHex as NoDigits, NoImage}
use Rattle.keys_joins.specs.Reading.{HasFlawedIn}
use Rattle.distinct_inputs.specs.Failures.{AreNotTwo, chosen_summary, images_in, IsOfReading, IsOfImages, IsOfSketch}
use Rattle.distinct_messages.specs.Failures.{IsOfWriting}
use Rattle.distinct_inputs.specs.Failures.{IsOfCombining, IsOfGroups, IsOfSum, IsOfVisits}
use Rattle.distinct_inputs.specs.Images.{images_of}
use Rattle.distinct_inputs.specs.Lists.{IsFirstUnnamed}
use Rattle.distinct_messages.specs.declared.failure.Failure.{Failure}
use Rattle.distinct_inputs.specs.declared.lists.ListError.{ListError}
use Rattle.distinct_inputs.specs.declared.lists.ListError.TheVariants.{Name, Memory as NoMemory}
use Rattle.distinct_messages.specs.declared.failure.Failure.TheVariants.{Arguments, NoFiles, NotTwo, NoExpression, NoName}
use Rattle.distinct_messages.specs.declared.failure.Failure.TheVariants.{NotOneEach, PastResult, Memory}
use Rattle.distinct_messages.specs.declared.failure.Failure.TheVariants.{NoTab, NoHex, NoSketch}
use Rattle.distinct_commands.specs.Showing.{EndsShow}
use Rattle.distinct_commands.specs.declared.expression.Operands.{Operands}
use Rattle.distinct_commands.specs.declared.expression.Operands.TheVariants as operands

-- the name of this number, from 1, of those in an expression is the first that can't be a file's: it isn't UTF-8 text
abbrev pub HasUnnamed : (number : ℕ) → (text : List ℕ) → Type 0
HasUnnamed number text = (names : List (List ℕ)) × (steps : List Step) × IsExpressionText text names steps × IsFirstUnnamed number names

-- the names of an expression are not read: memory was refused, or one can't be a file's
abbrev pub IsNameError : (text : List ℕ) → ListError → Type 0
IsNameError text NoMemory = ⊤
IsNameError text (Name number) = HasUnnamed number text

-- a text is not read as an expression: memory was refused, it spells none, or it has a name that can't be a file's
abbrev pub IsOfExpression : (text : List ℕ) → Failure → Type 0
IsOfExpression text Memory = ⊤
IsOfExpression text (NoExpression copy fault) = (string_bytes copy ≡ text) × SpellsNothing text
IsOfExpression text (NoName copy number) = (string_bytes copy ≡ text) × HasUnnamed number text
IsOfExpression text _ = ⊥

-- .. if it is the only word
abbrev pub IsOfWords : (words : List (List ℕ)) → Failure → Type 0
IsOfWords (text ∷ []) failure = IsOfExpression text failure
IsOfWords words (Arguments NotOneExpression) = ⊤
IsOfWords words _ = ⊥

-- the files of an expression over theta sketches are at fault: with `--keys` one can't be read, else one isn't an image
abbrev pub IsOfNames : (keys hex : Bool) → (seed : ℕ) → (texts : Option (List (List ℕ))) → Failure → Type 0
IsOfNames true hex seed texts failure = IsOfReading failure
IsOfNames false hex seed texts failure = IsOfImages false hex seed (option_map (images_of false hex) texts) failure

-- .. or there are not as many as names; no sum can be past a result
abbrev pub IsOfThetas : OptionValues → (seed : ℕ) → (texts : Option (List (List ℕ))) → Failure → Type 0
IsOfThetas options seed texts (NotOneEach found names) = found ≢ names
IsOfThetas options seed texts failure = IsOfNames options.keys options.hex seed texts failure

-- an expression over sketches of sums has no result: memory was refused, or sums are added and in some step two operands of a
-- union or an intersection have a key whose sums are 2^64 or more together
abbrev pub IsOfResult : SummaryMode → (lg_k : ℕ) → (text : List ℕ) → List Step → List (Compact (TupleEntry ℕ)) → Failure → Type 0
IsOfResult mode lg_k text steps sketches Memory = ⊤
IsOfResult mode lg_k text steps sketches (PastResult copy) =
    (string_bytes copy ≡ text) × MayRefuse (sum_rules mode) lg_k (sums_values sketches) steps (Some [])
IsOfResult mode lg_k text steps sketches _ = ⊥

-- .. over those that images have, one for each name
pub record IsPastResult (mode : SummaryMode) (lg_k seed : ℕ) (text : List ℕ) (images : List (List ℕ)) : Type 0 where
  pub names : List (List ℕ)
  pub steps : List Step
  pub spelled : IsExpressionText text names steps
  pub sketches : List (Compact (TupleEntry ℕ))
  pub read : AreReadSums seed images sketches
  pub counted : length names ≡ length sketches
  pub refused : MayRefuse (sum_rules mode) lg_k (sums_values sketches) steps (Some [])

-- an expression over images of sums isn't evaluated: a file is at fault, there are not as many as names, or a sum is past the result
abbrev pub IsOfSumsResult : OptionValues → (seed : ℕ) → (text : List ℕ) → (texts : Option (List (List ℕ))) → Failure → Type 0
IsOfSumsResult options seed text texts (NotOneEach found names) = found ≢ names
IsOfSumsResult options seed text texts (PastResult copy) =
    (string_bytes copy ≡ text) × IfSome texts (λ all. IsPastResult (chosen_summary options) options.lg_k seed text (images_of true options.hex all))
IsOfSumsResult options seed text texts failure = IsOfImages true options.hex seed (images_in true options texts) failure

-- in some text the first line with a flaw has this one, and this number: files of groups are not joined
abbrev pub IsOfJoin : (seed : ℕ) → (texts : Option (List (List ℕ))) → Failure → Type 0
IsOfJoin seed texts (NoTab name line) = IfSome texts (HasFlawedIn seed line NoTabAtAll)
IsOfJoin seed texts (NoHex name line) = IfSome texts (HasFlawedIn seed line NoDigits)
IsOfJoin seed texts (NoSketch name line flaw) = IfSome texts (HasFlawedIn seed line (NoImage flaw))
IsOfJoin seed texts failure = IsOfReading failure

-- an expression over groups of images isn't evaluated: a file is at fault, or there are not as many files as names
abbrev pub IsOfGroupsResult : (seed : ℕ) → (texts : Option (List (List ℕ))) → Failure → Type 0
IsOfGroupsResult seed texts (NotOneEach found names) = found ≢ names
IsOfGroupsResult seed texts failure = IsOfJoin seed texts failure

-- .. or over images
abbrev pub IsOfHashes : (by_groups : Bool) → OptionValues → (seed : ℕ) → (texts : Option (List (List ℕ))) → Failure → Type 0
IsOfHashes true options seed texts failure = IsOfGroupsResult seed texts failure
IsOfHashes false options seed texts failure = IsOfThetas options seed texts failure

-- an expression isn't evaluated, over sketches of sums or over theta sketches
abbrev pub IsOfEvaluation : (sums : Bool) → OptionValues → (seed : ℕ) → (text : List ℕ) → (texts : Option (List (List ℕ))) → Failure → Type 0
IsOfEvaluation true options seed text texts failure = IsOfSumsResult options seed text texts failure
IsOfEvaluation false options seed text texts failure = IsOfHashes options.groups options seed texts failure

-- no image is named, if this may be, or another failure
abbrev pub OrNoFiles : (HasNone : Type 0) → (IsOther : Failure → Type 0) → Failure → Type 0
OrNoFiles HasNone IsOther NoFiles = HasNone
OrNoFiles HasNone IsOther failure = IsOther failure

-- `count` fails: a file of lines can't be read; or no image is named, or groups of images can't be united
abbrev pub IsOfCount : (of_groups : Bool) → (seed count : ℕ) → (texts : Option (List (List ℕ))) → Failure → Type 0
IsOfCount false seed count texts failure = IsOfReading failure
IsOfCount true seed count texts failure = OrNoFiles (count ≡ 0) (IsOfGroups seed texts) failure

-- `show` fails: it ends, or groups of images can't be united
abbrev pub IsOfShow : (of_groups : Bool) → (seed : ℕ) → (texts : Option (List (List ℕ))) → Failure → Type 0
IsOfShow false seed texts failure = EndsShow failure
IsOfShow true seed texts failure = IsOfGroups seed texts failure

-- files of groups are not joined, or `minus` doesn't have two files
abbrev pub IsOfMinus : (seed count : ℕ) → (texts : Option (List (List ℕ))) → Failure → Type 0
IsOfMinus seed count texts NotTwo = (count ≢ 2) ⊎ IfSome texts (λ all. length all ≢ 2)
IsOfMinus seed count texts failure = IsOfJoin seed texts failure

-- an operator fails on groups of images
abbrev pub IsOfCombinedGroups : Operator → (seed count : ℕ) → (texts : Option (List (List ℕ))) → Failure → Type 0
IsOfCombinedGroups Union seed count texts failure = IsOfGroups seed texts failure
IsOfCombinedGroups Meet seed count texts failure = IsOfJoin seed texts failure
IsOfCombinedGroups Minus seed count texts failure = IsOfMinus seed count texts failure

-- .. or on images
abbrev pub IsOfOperator : (by_groups : Bool) → Operator → OptionValues → (seed count : ℕ) → (texts : Option (List (List ℕ))) → Failure → Type 0
IsOfOperator true operator options seed count texts failure = IsOfCombinedGroups operator seed count texts failure
IsOfOperator false operator options seed count texts failure = IsOfCombining operator options seed count texts failure

-- `similarity` fails: memory, a file or its contents is at fault, or there are not two images
abbrev pub IsOfPair : OptionValues → (seed count : ℕ) → (texts : Option (List (List ℕ))) → Failure → Type 0
IsOfPair options seed count texts failure =
    IsOfImages false options.hex seed (images_in false options texts) failure ⊎ ((failure ≡ NotTwo) × AreNotTwo options.hex count texts)

-- there are fewer than two images: each file is one, and this count of them is less, or the images in the texts are fewer, if these
-- are known
abbrev pub AreFew : (hex : Bool) → (count : ℕ) → (texts : Option (List (List ℕ))) → Type 0
AreFew hex count texts = ((hex ≡ false) × (count < 2)) ⊎ IfSome texts (λ all. length (images_of false hex all) < 2)

-- `matrix` fails: memory, a file or its contents is at fault, or there are fewer than two images
abbrev pub IsOfPairs : OptionValues → (seed count : ℕ) → (texts : Option (List (List ℕ))) → Failure → Type 0
IsOfPairs options seed count texts failure =
    IsOfImages false options.hex seed (images_in false options texts) failure ⊎ ((failure ≡ NotTwo) × AreFew options.hex count texts)

-- a command on files of these names fails before it writes: what it reads is at fault, or memory was refused; and by command, no image
-- is named, there are not as many as are expected, `minus` or `similarity` doesn't have two, `matrix` has fewer, or `sum` doesn't have the
-- field of its numbers
abbrev pub IsOfCommand : Command → OptionValues → (seed count : ℕ) → (texts : Option (List (List ℕ))) → Failure → Type 0
IsOfCommand Count options seed count texts failure = IsOfCount options.groups seed count texts failure
IsOfCommand Sketch options seed count texts failure = IsOfSketch options seed texts failure
IsOfCommand (Combine operator) options seed count texts failure =
    OrNoFiles (count ≡ 0) (IsOfOperator options.groups operator options seed count texts) failure
IsOfCommand Show options seed count texts failure = OrNoFiles (count ≡ 0) (IsOfShow options.groups seed texts) failure
IsOfCommand Eval options seed count texts failure = ⊥
IsOfCommand Visits options seed count texts failure = OrNoFiles ((count ≡ 0) × (options.sums ≡ true)) (IsOfVisits options seed texts) failure
IsOfCommand Sum options seed count texts failure = IsOfSum (chosen_group options) options seed texts failure
IsOfCommand Similarity options seed count texts failure = IsOfPair options seed count texts failure
IsOfCommand Matrix options seed count texts failure = IsOfPairs options seed count texts failure

-- .. or `eval` fails on an expression
abbrev pub IsOfOperands : Command → OptionValues → (seed : ℕ) → Operands → (texts : Option (List (List ℕ))) → Failure → Type 0
IsOfOperands command options seed (operands.Files names) texts failure = IsOfCommand command options seed (length names.now) texts failure
IsOfOperands command options seed (operands.Expression e) texts failure = IsOfEvaluation options.sums options seed e.now.text.now texts failure

-- a command fails, or its answer can't be written to standard output
abbrev pub IsOfAnswer : Command → OptionValues → (seed : ℕ) → Operands → (texts : Option (List (List ℕ))) → Failure → Type 0
IsOfAnswer command options seed given texts failure =
    IsOfOperands command options seed given texts failure ⊎ IsOfWriting (codes "standard output") failure

-- a request fails as its command does, or its text can't be written to standard output
abbrev pub IsOfRequest : Action → (seed : ℕ) → Operands → (texts : Option (List (List ℕ))) → Failure → Type 0
IsOfRequest (prints topic) seed given texts failure = IsOfWriting (codes "standard output") failure
IsOfRequest (runs command options words) seed given texts failure = IsOfAnswer command options seed given texts failure
IsOfRequest (fails mistake) seed given texts failure = ⊥
