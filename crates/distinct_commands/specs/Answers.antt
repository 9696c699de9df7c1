-- What a command writes, by the texts of its files.
use Rattle.std.specs.Prelude.{ℕ, ◌≡◌, ◌++◌, codes, Bool, true, false, List, [], ◌∷◌, length, Option, Some, None, IfSome}
use Rattle.std.specs.Io.KnownBytes.{Appends}
use Rattle.core_compact.specs.CompactState.{Compact}
use Rattle.theta_sketches.specs.Image.{written}
use Rattle.tuple_sketches.specs.declared.numbers.SummaryMode.{SummaryMode}
use Rattle.keys_lines.specs.Lines.{lines_of_all}
use Rattle.keys_sketches.specs.Keys.{value_of_lines, sketch_of_value}
use Rattle.keys_sketches.specs.Shards.{AreRead}
use Rattle.keys_sketches.specs.Unions.{IsUnitedImage, UnitesTexts}
use Rattle.keys_sums.specs.Unions.{IsUnitedSumsImage, UnitesSumsOfTexts}
use Rattle.keys_sums.specs.declared.addends.Amount.{Amount}
use Rattle.distinct_arguments.specs.Settings.{OptionValues, chosen_group}
use Rattle.keys_groups.specs.United.{IsUnitedText}
use Rattle.distinct_arguments.specs.Arguments.{Action, prints, runs, fails}
use Rattle.distinct_arguments.specs.Texts.{text_of}
use Rattle.distinct_inputs.specs.Failures.{chosen_amount, chosen_hashing, chosen_summary, unites_sums}
use Rattle.keys_joins.specs.Joins.{intersection_of, difference_of, IsMeetText, IsMinusText}
use Rattle.distinct_commands.specs.Eval.{IsEvaluatedOf}
use Rattle.distinct_inputs.specs.Images.{images_of, in_form}
use Rattle.distinct_commands.specs.Groups.{IsGroupedText, IsUnitedListing}
use Rattle.distinct_commands.specs.declared.groups.Listing.TheVariants.{Counts, Images, Shown}
use Rattle.keys_lines.specs.declared.key.Key.{Key}
use Rattle.distinct_commands.specs.Texts.{count_text, file_count_text, head_of}
use Rattle.distinct_messages.specs.Failures.{display_name}
use Rattle.distinct_commands.specs.Showing.{IsShownOf}
use Rattle.distinct_commands.specs.Sums.{IsSumsText}
use Rattle.distinct_commands.specs.SumGroups.{IsSumText}
use Rattle.distinct_commands.specs.Visits.{IsVisitsText}
use Rattle.distinct_commands.specs.Similarity.{IsComparedOf}
use Rattle.distinct_commands.specs.Matrix.{IsMatrixOf}
use Rattle.distinct_messages.specs.declared.failure.Failure.{Failure}
use Rattle.distinct_arguments.specs.declared.commands.Command.{Command}
use Rattle.distinct_arguments.specs.declared.commands.Command.TheVariants.{Count, Sketch, Combine, Show, Eval}
use Rattle.distinct_arguments.specs.declared.commands.Command.TheVariants.{Visits, Sum, Similarity, Matrix}
use Rattle.distinct_arguments.specs.declared.commands.Operator.{Operator}
use Rattle.distinct_arguments.specs.declared.commands.Operator.TheVariants.{Union, Meet, Minus}

-- the sketch of the lines of all texts, each text cut into lines by itself, with the key and the size that the options
-- set, under a seed
abbrev pub sketch_of : OptionValues → (seed : ℕ) → (texts : List (List ℕ)) → Compact ℕ
sketch_of options seed texts = sketch_of_value seed (value_of_lines (chosen_hashing options seed) options.lg_k (lines_of_all texts))

-- the image of the intersection of the sketches in images
abbrev pub IsIntersectionImage : (seed : ℕ) → (images : List (List ℕ)) → List ℕ → Type 0
IsIntersectionImage seed images out =
    (sketches : List (Compact ℕ)) × AreRead seed images sketches × (out ≡ written (intersection_of seed sketches))

-- the image of the difference of the sketches in two images
abbrev pub IsDifferenceImage : (seed : ℕ) → (images : List (List ℕ)) → List ℕ → Type 0
IsDifferenceImage seed images out =
    (first second : Compact ℕ) × AreRead seed images (first ∷ second ∷ []) × (out ≡ written (difference_of seed first second))

-- there are as many images as are expected, if a number is
abbrev pub IsExpected : (expected : Option ℕ) → (count : ℕ) → Type 0
IsExpected expected count = IfSome expected (λ number. number ≡ count)

-- the image of the union of the sketches in images, which are theta sketches, or sketches of sums that a mode combines; images of
-- texts that were sketched apart, or of their sums, are united to the image of all their lines
abbrev pub IsUnionOf : (sums : Bool) → SummaryMode → (seed lg_k : ℕ) → (images : List (List ℕ)) → List ℕ → Type 0
IsUnionOf false mode seed lg_k images out = IsUnitedImage seed lg_k images out × UnitesTexts seed lg_k images out
IsUnionOf true mode seed lg_k images out = IsUnitedSumsImage mode seed lg_k images out × UnitesSumsOfTexts mode seed lg_k images out

-- the image that an operator makes of the sketches in images
abbrev pub IsCombined : Operator → OptionValues → (seed : ℕ) → (images : List (List ℕ)) → List ℕ → Type 0
IsCombined Union options seed images out =
    IsUnionOf options.sums (chosen_summary options) seed options.lg_k images out × IsExpected options.expected (length images)
IsCombined Meet options seed images out = IsIntersectionImage seed images out × IsExpected options.expected (length images)
IsCombined Minus options seed images out = IsDifferenceImage seed images out

-- the same for the images in files
abbrev pub IsCombinedOf : Operator → OptionValues → (seed : ℕ) → (texts : List (List ℕ)) → List ℕ → Type 0
IsCombinedOf operator options seed texts out = IsCombined operator options seed (images_of (unites_sums operator options) options.hex texts) out

-- what `count` prints of the lines of texts, by the key of their groups if there is one
abbrev pub IsCountOf : (by : Option Key) → OptionValues → (seed : ℕ) → (texts : List (List ℕ)) → List ℕ → Type 0
IsCountOf None options seed texts out = out ≡ count_text options (sketch_of options seed texts)
IsCountOf (Some by) options seed texts out = IsGroupedText Counts options seed by texts out

-- what `count` prints of the file of a name that has this text, counted by itself
abbrev pub file_text : OptionValues → (seed : ℕ) → (name text : List ℕ) → List ℕ
file_text options seed name text = file_count_text options (display_name name) (sketch_of options seed (text ∷ []))

-- .. of the files of these names, one after another; a text behind them has the last name, which is this one before the first
unfoldable pub files_text : OptionValues → (seed : ℕ) → (last : List ℕ) → (names texts : List (List ℕ)) → List ℕ
files_text options seed last names [] = []
files_text options seed last [] (text ∷ texts) = file_text options seed last text ++ files_text options seed last [] texts
files_text options seed last (name ∷ names) (text ∷ texts) = file_text options seed name text ++ files_text options seed name names texts

-- what `count` prints of the lines of files of these names, of each by itself or of all; with no name, of standard input
abbrev pub IsLinesCount : (per_file : Bool) → OptionValues → (seed : ℕ) → (names texts : List (List ℕ)) → List ℕ → Type 0
IsLinesCount false options seed names texts out = IsCountOf (chosen_group options) options seed texts out
IsLinesCount true options seed names texts out = out ≡ head_of options.form ++ files_text options seed (codes "-") names texts

-- what `count` prints of files: of their lines, or of the groups of images in them
abbrev pub IsCountText : (of_groups : Bool) → OptionValues → (seed : ℕ) → (names texts : List (List ℕ)) → List ℕ → Type 0
IsCountText false options seed names texts out = IsLinesCount options.per_file options seed names texts out
IsCountText true options seed names texts out = IsUnitedListing Counts options seed texts out

-- what `sketch` writes of texts, by the key of their groups if there is one
abbrev pub IsSketchOf : (by : Option Key) → OptionValues → (seed : ℕ) → (texts : List (List ℕ)) → List ℕ → Type 0
IsSketchOf None options seed texts out = out ≡ in_form options.hex (written (sketch_of options seed texts))
IsSketchOf (Some by) options seed texts out = IsGroupedText Images options seed by texts out

-- what `count` prints of a sketch of lines, or its image, as `sketch` writes it
abbrev pub lines_text : (images : Bool) → OptionValues → Compact ℕ → List ℕ
lines_text false options s = count_text options s
lines_text true options s = in_form options.hex (written s)

-- what `count` prints of texts, or `sketch` writes of them
abbrev pub IsLinesText : (images : Bool) → (by : Option Key) → OptionValues → (seed : ℕ) → (texts : List (List ℕ)) → List ℕ → Type 0
IsLinesText false by options seed texts out = IsCountOf by options seed texts out
IsLinesText true by options seed texts out = IsSketchOf by options seed texts out

-- what `sketch` writes of texts: of the sums of what their lines add, if they add something
abbrev pub IsSketchText : Option Amount → (by : Option Key) → OptionValues → (seed : ℕ) → (texts : List (List ℕ)) → List ℕ → Type 0
IsSketchText None by options seed texts out = IsSketchOf by options seed texts out
IsSketchText (Some amount) by options seed texts out = IsSumsText amount options seed texts out

-- a line for each group of the result of an operator on the groups of images in files
abbrev pub IsCombinedGroups : Operator → (seed lg_k : ℕ) → (texts : List (List ℕ)) → List ℕ → Type 0
IsCombinedGroups Union seed lg_k texts out = IsUnitedText seed lg_k (lines_of_all texts) out
IsCombinedGroups Meet seed lg_k texts out = IsMeetText seed lg_k texts out
IsCombinedGroups Minus seed lg_k texts out = IsMinusText seed lg_k texts out

-- what an operator writes of the images in files: an image, or a line for each group with its image
abbrev pub IsCombinedText : (by_groups : Bool) → Operator → OptionValues → (seed : ℕ) → (texts : List (List ℕ)) → List ℕ → Type 0
IsCombinedText false operator options seed texts out =
    (image : List ℕ) × IsCombinedOf operator options seed texts image × (out ≡ in_form options.hex image)
IsCombinedText true operator options seed texts out = IsCombinedGroups operator seed options.lg_k texts out

-- what a command other than `show` writes for files of these names and texts; the only name of `eval` is its expression
abbrev pub IsWholeAnswer : Command → OptionValues → (seed : ℕ) → (names texts : List (List ℕ)) → List ℕ → Type 0
IsWholeAnswer Count options seed names texts out = IsCountText options.groups options seed names texts out
IsWholeAnswer Sketch options seed names texts out = IsSketchText (chosen_amount options) (chosen_group options) options seed texts out
IsWholeAnswer (Combine operator) options seed names texts out = IsCombinedText options.groups operator options seed texts out
IsWholeAnswer Show options seed names texts out = ⊥
IsWholeAnswer Eval options seed names texts out = IsEvaluatedOf options seed names texts out
IsWholeAnswer Visits options seed names texts out = IsVisitsText options.sums options seed texts out
IsWholeAnswer Sum options seed names texts out = IsSumText (chosen_group options) options seed texts out
IsWholeAnswer Similarity options seed names texts out = IsComparedOf options seed texts out
IsWholeAnswer Matrix options seed names texts out = IsMatrixOf options seed names texts out

-- what `show` prints of texts: of the images in them, or of the groups of images, of which it passes over nothing
abbrev pub IsShowText : (of_groups : Bool) → OptionValues → (seed : ℕ) → (names texts : List (List ℕ)) → List ℕ → (passed : List Failure) → Type 0
IsShowText false options seed names texts out passed = IsShownOf options names texts out passed
IsShowText true options seed names texts out passed = IsUnitedListing Shown options seed texts out × (passed ≡ [])

-- what a command writes, and the failures of the files that it passes over: `show` of those that have no image, any other of none
abbrev pub IsCommandAnswer : Command → OptionValues → (seed : ℕ) → (names texts : List (List ℕ)) → List ℕ → (passed : List Failure) → Type 0
IsCommandAnswer Show options seed names texts out passed = IsShowText options.groups options seed names texts out passed
IsCommandAnswer command options seed names texts out passed = IsWholeAnswer command options seed names texts out × (passed ≡ [])

-- the command's answer was written, and nothing else
abbrev pub WritesAnswer : Command → OptionValues → (seed : ℕ) → (names texts : List (List ℕ)) → (passed : List Failure) → (old new : Option (List ℕ)) → Type 0
WritesAnswer command options seed names texts passed old new =
    (out : List ℕ) × IsCommandAnswer command options seed names texts out passed × Appends old new out

-- the program did what its arguments say: it printed the text on a topic and nothing else, or ran a command under this seed on
-- files of these names and texts
abbrev pub Performs : Action → (seed : ℕ) → (names texts : List (List ℕ)) → (passed : List Failure) → (old new : Option (List ℕ)) → Type 0
Performs (prints topic) seed names texts passed old new = Appends old new (text_of topic) × (passed ≡ [])
Performs (runs command options files) seed names texts passed old new = WritesAnswer command options seed names texts passed old new
Performs (fails fault) seed names texts passed old new = ⊥
