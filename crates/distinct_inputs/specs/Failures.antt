-- When each failure occurs.
use Rattle.std.specs.Prelude.{ℕ, ◌≡◌, ◌≢◌, ◌⊎◌, ◌+◌, ◌==◌, ◌&&◌, ⊤, Bool, true, false, List, [], ◌∷◌, length, Option}
use Rattle.std.specs.Prelude.{Some, None, IfSome, is_none, unwrap_or, String, string_bytes, if◌then◌else◌}
use Rattle.std.specs.Option.{option_map}
use Rattle.sketch_base.specs.declared.error.ErrorKind.TheVariants.{OutOfMemory, InvalidData, Policy}
use Rattle.sketch_base.specs.Seed.{seed_hash}
use Rattle.keys_lines.specs.Lines.{lines_of, lines_of_all}
use Rattle.keys_lines.specs.declared.key.Hashing.{Hashing}
use Rattle.keys_lines.specs.declared.key.Key.{Key}
use Rattle.keys_sketches.specs.Refusals.{HasFault}
use Rattle.core_images.specs.declared.flaw.Flaw.TheVariants.{Damaged}
use Rattle.keys_sketches.specs.declared.header.Flaw.TheVariants.{Image}
use Rattle.keys_sketches.specs.declared.sketching.ReadError.{ReadError}
use Rattle.keys_sketches.specs.declared.sketching.ReadError.TheVariants.{Refused, Failed}
use Rattle.tuple_sketches.specs.declared.numbers.SummaryMode.{SummaryMode}
use Rattle.tuple_sketches.specs.declared.numbers.SummaryMode.TheVariants.{Sum, Min, Max}
use Rattle.keys_sums.specs.Amounts.{added_by}
use Rattle.keys_lines.specs.declared.key.Key.TheVariants.{Field}
use Rattle.keys_sums.specs.Refusals.{HasNoNumberAt, IsPast}
use Rattle.keys_sums.specs.declared.addends.Amount.{Amount}
use Rattle.keys_sums.specs.declared.addends.Amount.TheVariants.{One, Number}
use Rattle.distinct_arguments.specs.declared.fault.Fault.TheVariants.{SumNeedsValue, ZeroSeed}
use Rattle.distinct_arguments.specs.Settings.{chosen_key, chosen_mode, chosen_value}
use Rattle.distinct_arguments.specs.declared.options.Mode.{Mode}
use Rattle.distinct_arguments.specs.declared.options.Mode.TheVariants as mode
use Rattle.std.specs.declared.io.Error.{Error}
use Rattle.distinct_arguments.specs.Settings.{OptionValues, SeedValue, seed_number, seed_file}
use Rattle.distinct_inputs.specs.Images.{images_of, HasNoSketch}
use Rattle.distinct_inputs.specs.Lists.{are_lines, names_in, IsFirstUnnamed}
use Rattle.distinct_inputs.specs.Seeds.{seed_in}
use Rattle.distinct_inputs.specs.declared.images.Images.{Images}
use Rattle.distinct_arguments.specs.declared.commands.Operator.{Operator}
use Rattle.distinct_arguments.specs.declared.commands.Operator.TheVariants.{Union, Meet, Minus}
use Rattle.keys_groups.specs.United.{HasFirstFlawed}
use Rattle.keys_groups.specs.declared.united.LineFlaw.{LineFlaw}
use Rattle.keys_groups.specs.declared.united.LineFlaw.TheVariants.{NoTab as NoTabAtAll, NoHex as NoDigits, NoImage}
use Rattle.distinct_messages.specs.Failures.{display_name}
use Rattle.distinct_messages.specs.declared.failure.Failure.{Failure}
use Rattle.distinct_messages.specs.declared.failure.Failure.TheVariants.{Arguments, NotTwo, NoDir, NoName, NoNul, NoSeed}
use Rattle.distinct_messages.specs.declared.failure.Failure.TheVariants.{WrongCount, Memory, Unreadable}
use Rattle.distinct_messages.specs.declared.failure.Failure.TheVariants.{NoSketch, NoSums, NoHex, NoTab, NoLine}
use Rattle.distinct_messages.specs.declared.failure.Failure.TheVariants.{PastGreatest, PastUnion, NotANumber}
use Rattle.distinct_messages.specs.declared.failure.Failure.TheVariants.{NotWritten}

-- the next name is the current one, and the others are left; if no name is left, the current one stays
abbrev pub NotesNext : {A : Type 0} → (current : List ℕ) → (left : List (String A)) → (new_current : List ℕ) → (new_left : List (String A)) → Type 0
NotesNext current [] new_current new_left = (new_current ≡ current) × (new_left ≡ [])
NotesNext current (name ∷ names) new_current new_left = (new_current ≡ string_bytes name) × (new_left ≡ names)

-- .. if a file is one image
abbrev pub NotesNextFile : {S R : Type 0} → (old new : Images S R) → Type 0
NotesNextFile old new =
    old.hex ≡ false → (new.hex ≡ false) × NotesNext old.inputs.current.now old.inputs.left.now new.inputs.current.now new.inputs.left.now

-- memory was refused, or the file of this name can't be read, for this reason
abbrev pub ReportsUnreadable : (name : List ℕ) → Error → Failure → Type 0
ReportsUnreadable name error Memory = ⊤
ReportsUnreadable name error (Unreadable file reason) = (string_bytes file ≡ name) × (reason ≡ error)
ReportsUnreadable name error _ = ⊥

-- Memory was refused; or the file that was opened last has no line though each line should be an image; or its line that was read last
-- isn't hexadecimal; or this line, or the file, has this flaw.
abbrev pub ReportsNoSketch : {S R : Type 0} → (sums hex : Bool) → Images S R → Failure → Type 0
ReportsNoSketch sums hex images Memory = ⊤
ReportsNoSketch sums hex images (NoSketch file number flaw) =
    (string_bytes file ≡ display_name images.inputs.current.now) × (number ≡ images.line) × (sums ≡ false) × (flaw ≡ unwrap_or images.flaw (Image Damaged))
    × ((hex && images.line == 0) ≡ false) × ((hex && is_none images.flaw) ≡ false)
ReportsNoSketch sums hex images (NoSums file number flaw) =
    (string_bytes file ≡ display_name images.inputs.current.now) × (number ≡ images.line) × (sums ≡ true) × (flaw ≡ unwrap_or images.flaw (Image Damaged))
    × ((hex && images.line == 0) ≡ false) × ((hex && is_none images.flaw) ≡ false)
ReportsNoSketch sums hex images (NoHex file number) =
    (string_bytes file ≡ display_name images.inputs.current.now)
    × (number ≡ images.line)
    × ((hex && images.line == 0) ≡ false)
    × ((hex && is_none images.flaw) ≡ true)
ReportsNoSketch sums hex images (NoLine file) = (string_bytes file ≡ display_name images.inputs.current.now) × ((hex && images.line == 0) ≡ true)
ReportsNoSketch sums hex images _ = ⊥

-- memory was refused, or the sum of a key is 2^64 or more with the file that was opened last, or its line that was read last
abbrev pub ReportsPastUnion : {S R : Type 0} → Images S R → Failure → Type 0
ReportsPastUnion images Memory = ⊤
ReportsPastUnion images (PastUnion file number) = (string_bytes file ≡ display_name images.inputs.current.now) × (number ≡ images.line)
ReportsPastUnion images _ = ⊥

-- memory was refused, or the line of this number of the file of this name has this flaw
abbrev pub ReportsFlawed : (name : List ℕ) → (number : ℕ) → LineFlaw → Failure → Type 0
ReportsFlawed name number flaw Memory = ⊤
ReportsFlawed name number flaw (NoTab file line) = (string_bytes file ≡ name) × (line ≡ number) × (flaw ≡ NoTabAtAll)
ReportsFlawed name number flaw (NoHex file line) = (string_bytes file ≡ name) × (line ≡ number) × (flaw ≡ NoDigits)
ReportsFlawed name number flaw (NoSketch file line kind) = (string_bytes file ≡ name) × (line ≡ number) × (flaw ≡ NoImage kind)
ReportsFlawed name number flaw _ = ⊥

-- what each line adds to the sum of its key, if `sketch` writes sums: one, or the number in a part of it
abbrev pub chosen_amount : OptionValues → Option Amount
chosen_amount options = if options.visits then Some One else option_map (λ field. Number field) (chosen_value options)

-- how the numbers of a key are combined
abbrev pub summary_mode : Mode → SummaryMode
summary_mode mode.Sum = Sum
summary_mode mode.Min = Min
summary_mode mode.Max = Max

abbrev pub chosen_summary : OptionValues → SummaryMode
chosen_summary options = summary_mode (chosen_mode options)

-- how lines are hashed: by the field of the number that options choose, the first being 1, or the whole line
abbrev pub chosen_hashing : OptionValues → (seed : ℕ) → Hashing
chosen_hashing options seed = record { key = chosen_key options; seed = seed }

-- if the texts are known, what the lines of a hash add in them is added, and for some hash that is 2^64 or more
abbrev pub HasGreatSum : SummaryMode → OptionValues → (seed : ℕ) → Amount → (texts : Option (List (List ℕ))) → Type 0
HasGreatSum mode options seed amount texts = IfSome texts (λ all. IsPast mode (chosen_hashing options seed) (added_by amount) (lines_of_all all))

-- memory was refused, or a file can't be read
abbrev pub IsOfReading : Failure → Type 0
IsOfReading Memory = ⊤
IsOfReading (Unreadable name error) = ⊤
IsOfReading _ = ⊥

-- .. or some of these images, of sums or of theta sketches, is none of this seed, if they are known; only for lines with images is a line
-- reported to be not hexadecimal, or missing
abbrev pub IsOfImages : (sums hex : Bool) → (seed : ℕ) → (images : Option (List (List ℕ))) → Failure → Type 0
IsOfImages sums hex seed images (NoSketch name line flaw) = (sums ≡ false) × HasNoSketch sums seed images
IsOfImages sums hex seed images (NoSums name line flaw) = (sums ≡ true) × HasNoSketch sums seed images
IsOfImages sums hex seed images (NoHex name line) = (hex ≡ true) × HasNoSketch sums seed images
IsOfImages sums hex seed images (NoLine name) = (hex ≡ true) × HasNoSketch sums seed images
IsOfImages sums hex seed images failure = IsOfReading failure

-- the images in files, if their texts are known: of sums or of theta sketches
abbrev pub images_in : (sums : Bool) → OptionValues → (texts : Option (List (List ℕ))) → Option (List (List ℕ))
images_in sums options texts = option_map (images_of sums options.hex) texts

-- .. or the first line of a text with a flaw has this one, and this number: groups of images are not united
abbrev pub IsOfGroups : (seed : ℕ) → (texts : Option (List (List ℕ))) → Failure → Type 0
IsOfGroups seed texts (NoTab name line) = IfSome texts (HasFirstFlawed seed line NoTabAtAll)
IsOfGroups seed texts (NoHex name line) = IfSome texts (HasFirstFlawed seed line NoDigits)
IsOfGroups seed texts (NoSketch name line flaw) = IfSome texts (HasFirstFlawed seed line (NoImage flaw))
IsOfGroups seed texts failure = IsOfReading failure

-- the line of this number in some text has no number to add, and its field starts with these bytes, if the texts are known
abbrev pub HasNoNumberIn : Amount → (line : ℕ) → (start : List ℕ) → (texts : Option (List (List ℕ))) → Type 0
HasNoNumberIn amount line start texts = IfSome texts (HasFault (λ text. HasNoNumberAt amount line start (lines_of text)))

-- the number of the field that lines add, the first being 1; 0 if it has none: texts choose it (30 is between the parts then)
abbrev pub shown_field : Amount → ℕ
shown_field (Number (Field before separator)) = if separator == 30 then 0 else before + 1
shown_field amount = 0

-- lines are not summed: memory was refused, a file can't be read, a sum is 2^64 or more, or a line has no number to add
abbrev pub IsOfSums : SummaryMode → OptionValues → (seed : ℕ) → Amount → (texts : Option (List (List ℕ))) → Failure → Type 0
IsOfSums mode options seed amount texts (PastGreatest name line) = HasGreatSum mode options seed amount texts
IsOfSums mode options seed amount texts (NotANumber name line field start) =
    (amount ≢ One) × (field ≡ shown_field amount) × HasNoNumberIn amount line start.items texts
IsOfSums mode options seed amount texts failure = IsOfReading failure

-- lines have no totals by groups: memory was refused, a file can't be read, or a line has no number to add
abbrev pub IsOfNumbers : Amount → (texts : Option (List (List ℕ))) → Failure → Type 0
IsOfNumbers amount texts (NotANumber name line field start) = (amount ≢ One) × (field ≡ shown_field amount) × HasNoNumberIn amount line start.items texts
IsOfNumbers amount texts failure = IsOfReading failure

-- lines are not sketched, or not summed if they add something
abbrev pub IsOfChosen : Option Amount → OptionValues → (seed : ℕ) → (texts : Option (List (List ℕ))) → Failure → Type 0
IsOfChosen None options seed texts failure = IsOfReading failure
IsOfChosen (Some amount) options seed texts failure = IsOfSums (chosen_summary options) options seed amount texts failure

abbrev pub IsOfSketch : OptionValues → (seed : ℕ) → (texts : Option (List (List ℕ))) → Failure → Type 0
IsOfSketch options seed texts failure = IsOfChosen (chosen_amount options) options seed texts failure

-- no field has the numbers of lines
abbrev pub LacksValue : OptionValues → Failure → Type 0
LacksValue options (Arguments SumNeedsValue) = options.value ≡ None
LacksValue options failure = ⊥

-- .. or lines are not summed by the field that has their numbers
abbrev pub IsOfTotalOf : (value : Option Key) → OptionValues → (seed : ℕ) → (texts : Option (List (List ℕ))) → Failure → Type 0
IsOfTotalOf None options seed texts failure = LacksValue options failure
IsOfTotalOf (Some field) options seed texts failure = IsOfSums Sum options seed (Number field) texts failure

abbrev pub IsOfTotal : OptionValues → (seed : ℕ) → (texts : Option (List (List ℕ))) → Failure → Type 0
IsOfTotal options seed texts failure = IsOfTotalOf (chosen_value options) options seed texts failure

-- .. by groups
abbrev pub IsOfGroupTotalsOf : (value : Option Key) → OptionValues → (texts : Option (List (List ℕ))) → Failure → Type 0
IsOfGroupTotalsOf None options texts failure = LacksValue options failure
IsOfGroupTotalsOf (Some field) options texts failure = IsOfNumbers (Number field) texts failure

abbrev pub IsOfGroupTotals : OptionValues → (texts : Option (List (List ℕ))) → Failure → Type 0
IsOfGroupTotals options texts failure = IsOfGroupTotalsOf (chosen_value options) options texts failure

-- `sum` fails, by the key of groups if there is one
abbrev pub IsOfSum : (by : Option Key) → OptionValues → (seed : ℕ) → (texts : Option (List (List ℕ))) → Failure → Type 0
IsOfSum None options seed texts failure = IsOfTotal options seed texts failure
IsOfSum (Some by) options seed texts failure = IsOfGroupTotals options texts failure

-- no names from the list of this name and, if they are known, of these bytes: memory was refused, the list can't be read,
-- it has lines and no NUL byte, or the first name that can't be one has this number
abbrev pub IsOfList : (name : List ℕ) → (list : Option (List ℕ)) → Failure → Type 0
IsOfList name list (NoNul file) = (string_bytes file ≡ display_name name) × IfSome list (λ bytes. are_lines bytes ≡ true)
IsOfList name list (NoName file number) = (string_bytes file ≡ display_name name) × IfSome list (λ bytes. IsFirstUnnamed number (names_in bytes))
IsOfList name list failure = IsOfReading failure

-- no seed from the file of this name and, if they are known, of these bytes: memory was refused, the file can't be read, or
-- its bytes spell no seed
abbrev pub IsOfSeedFile : (name : List ℕ) → (bytes : Option (List ℕ)) → Failure → Type 0
IsOfSeedFile name bytes (NoSeed file) = (string_bytes file ≡ display_name name) × IfSome bytes (λ known. seed_in known ≡ None)
IsOfSeedFile name bytes failure = IsOfReading failure

-- no seed: a number has a seed hash of 0, or a file can't be read or has no seed
abbrev pub IsOfSeed : SeedValue → Failure → Type 0
IsOfSeed (seed_number n) (Arguments (ZeroSeed number)) = (number ≡ n) × (seed_hash n ≡ 0)
IsOfSeed (seed_number n) _ = ⊥
IsOfSeed (seed_file name) failure = IsOfSeedFile name None failure

-- memory was refused, or the folder of this name can't be entered
abbrev pub IsOfDir : (name : List ℕ) → Failure → Type 0
IsOfDir name Memory = ⊤
IsOfDir name (NoDir folder error) = string_bytes folder ≡ name
IsOfDir name _ = ⊥

-- there are not two images: each file is one, and this count of them is not two, or the images in the texts are not
-- two, if these are known
abbrev pub AreNotTwo : (hex : Bool) → (count : ℕ) → (texts : Option (List (List ℕ))) → Type 0
AreNotTwo hex count texts = ((hex ≡ false) × (count ≢ 2)) ⊎ IfSome texts (λ all. length (images_of false hex all) ≢ 2)

-- there are this many images, if they are known
abbrev pub AreCounted : (found : ℕ) → (images : Option (List (List ℕ))) → Type 0
AreCounted found images = IfSome images (λ all. found ≡ length all)

-- images aren't united: memory, a file or its contents is at fault, or they are not as many as are expected; the number that is
-- reported to be found is theirs
abbrev pub IsOfUnion : (expected : Option ℕ) → (sums hex : Bool) → (seed : ℕ) → (images : Option (List (List ℕ))) → Failure → Type 0
IsOfUnion expected sums hex seed images (WrongCount found number) = (expected ≡ Some number) × (number ≢ found) × AreCounted found images
IsOfUnion expected sums hex seed images failure = IsOfImages sums hex seed images failure

-- images of sums, or of theta sketches, can't be united
abbrev pub IsOfEitherUnion : OptionValues → (seed : ℕ) → (images : Option (List (List ℕ))) → Failure → Type 0
IsOfEitherUnion options seed images (PastUnion name line) = options.sums ≡ true
IsOfEitherUnion options seed images failure = IsOfUnion options.expected options.sums options.hex seed images failure

-- `visits` fails: lines, or images of sums, are at fault
abbrev pub IsOfVisits : OptionValues → (seed : ℕ) → (texts : Option (List (List ℕ))) → Failure → Type 0
IsOfVisits options seed texts (PastGreatest name line) = (options.sums ≡ false) × HasGreatSum Sum options seed One texts
IsOfVisits options seed texts failure = IsOfEitherUnion options seed (images_in options.sums options texts) failure

-- a union of images, of sums or of theta sketches, is refused for memory, for an image that is none, or, if they are
-- of sums, for a sum of 2^64 or more
abbrev pub IsOfUniting : (sums : Bool) → (seed : ℕ) → (images : Option (List (List ℕ))) → ReadError → Type 0
IsOfUniting sums seed images (Failed error) = ⊤
IsOfUniting sums seed images (Refused error) =
    (error ≡ OutOfMemory) ⊎ (((error ≡ Policy) × (sums ≡ true)) ⊎ ((error ≡ InvalidData) × HasNoSketch sums seed images))

-- images are of sums
abbrev pub unites_sums : Operator → OptionValues → Bool
unites_sums Union options = options.sums
unites_sums Meet options = false
unites_sums Minus options = false

-- images can't be combined: memory, a file or its contents is at fault, there are not as many as are expected, or
-- `minus` doesn't have two
abbrev pub IsOfCombining : Operator → OptionValues → (seed count : ℕ) → (texts : Option (List (List ℕ))) → Failure → Type 0
IsOfCombining operator options seed count texts NotTwo = (operator ≡ Minus) × AreNotTwo options.hex count texts
IsOfCombining operator options seed count texts (PastUnion name line) = options.sums ≡ true
IsOfCombining operator options seed count texts failure =
    IsOfUnion options.expected (unites_sums operator options) options.hex seed (images_in (unites_sums operator options) options texts) failure

-- nothing was written to the writer, or it is the writer that failed
abbrev pub IsUnwritten : (old new : Option (List ℕ)) → Failure → Type 0
IsUnwritten old new Memory = ⊤
IsUnwritten old new (NotWritten output error) = ⊤
IsUnwritten old new _ = new ≡ old
