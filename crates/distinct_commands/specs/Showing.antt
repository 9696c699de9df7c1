-- What `show` prints of images, and the failures of those that it passes over.
use Rattle.std.specs.Prelude.{ℕ, ◌≡◌, ◌⊎◌, ◌++◌, ⊤, Bool, true, false, List, [], ◌∷◌, Option, Some, None, string_bytes}
use Rattle.std.specs.List.{list_all}
use Rattle.core_compact.specs.CompactState.{Compact}
use Rattle.distinct_arguments.specs.Settings.{OptionValues}
use Rattle.distinct_messages.specs.Failures.{display_name, is_fault, IsOfOne, UnreadableIf}
use Rattle.distinct_inputs.specs.Failures.{IsOfReading}
use Rattle.distinct_inputs.specs.Images.{images_of}
use Rattle.distinct_inputs.specs.AnySeed.{IsImageOf, IsOfNoSeed}
use Rattle.distinct_commands.specs.Texts.{shown_text, head_of}
use Rattle.distinct_commands.specs.declared.show.Seen.{Seen}
use Rattle.distinct_commands.specs.declared.show.Seen.TheVariants.{Sketch, Passed}
use Rattle.distinct_messages.specs.declared.failure.Failure.{Failure}
use Rattle.distinct_messages.specs.declared.failure.Failure.TheVariants.{Memory, Unreadable, NoSketch}

-- a failure names the file of this name, unless memory was refused
abbrev pub NamesFile : (name : List ℕ) → Failure → Type 0
NamesFile name Memory = ⊤
NamesFile name (NoSketch file line flaw) = string_bytes file ≡ name
NamesFile name (Unreadable file error) = string_bytes file ≡ name
NamesFile name _ = ⊥

-- one line per image, of whatever seed, under the file's name; of bytes that are an image of no seed, a failure that names the file
abbrev pub AreShownByName : OptionValues → (names images : List (List ℕ)) → List ℕ → (passed : List Failure) → Type 0
AreShownByName options [] images out passed = (out ≡ []) × (passed ≡ [])
AreShownByName options (name ∷ names) [] out passed = (out ≡ []) × (passed ≡ [])
AreShownByName options (name ∷ names) (image ∷ images) out passed =
    ((s : Compact ℕ) × (rest : List ℕ) × IsImageOf image s × (out ≡ shown_text options (display_name name) s ++ rest)
    × AreShownByName options names images rest passed)
    ⊎ ((failure : Failure) × (more : List Failure) × IsOfNoSeed image × NamesFile (display_name name) failure
    × (passed ≡ failure ∷ more) × AreShownByName options names images out more)

-- the same, under any name; of bytes that are an image of no seed, a failure
abbrev pub AreShown : OptionValues → (images : List (List ℕ)) → List ℕ → (passed : List Failure) → Type 0
AreShown options [] out passed = (out ≡ []) × (passed ≡ [])
AreShown options (image ∷ images) out passed =
    ((name : List ℕ) × (s : Compact ℕ) × (rest : List ℕ) × IsImageOf image s × (out ≡ shown_text options name s ++ rest)
    × AreShown options images rest passed)
    ⊎ ((failure : Failure) × (more : List Failure) × IsOfNoSeed image × (passed ≡ failure ∷ more)
    × AreShown options images out more)

-- one line per image in files: under the file's name if each file is an image, under an unspecified name if each line has one
abbrev pub AreLinesOf : (hex : Bool) → OptionValues → (names texts : List (List ℕ)) → List ℕ → (passed : List Failure) → Type 0
AreLinesOf true options names texts out passed = AreShown options (images_of false true texts) out passed
AreLinesOf false options names texts out passed = AreShownByName options names (images_of false false texts) out passed

-- .. after the head of a table, if there is to be one; if a file can't be read, it is unspecified what is shown of the files
abbrev pub IsShownOf : OptionValues → (names texts : List (List ℕ)) → List ℕ → (passed : List Failure) → Type 0
IsShownOf options names texts out passed =
    list_all is_fault passed ≡ true
    → (lines : List ℕ) × AreLinesOf options.hex options names texts lines passed × (out ≡ head_of options.form ++ lines)

-- each of the failures is of one file, and that it can't be read only if files may fail
abbrev pub AreOfOne : (may_fail : Bool) → (passed : List Failure) → Type 0
AreOfOne may_fail [] = ⊤
AreOfOne may_fail (failure ∷ passed) = IsOfOne failure × UnreadableIf may_fail failure × AreOfOne may_fail passed

-- `show` ends with a failure: memory was refused, or standard input can't be read
abbrev pub EndsShow : Failure → Type 0
EndsShow failure = IsOfReading failure × (IsOfOne failure → ⊥)

-- the next image is the first that was left, and it is the image of this sketch
pub record ShowsFirst (images : List (List ℕ)) (s : Compact ℕ) (left : Option (List (List ℕ))) : Type 0 where
  pub image : List ℕ
  pub images_after : List (List ℕ)
  pub parted : images ≡ image ∷ images_after
  pub is_image : IsImageOf image s
  pub leaves : left ≡ Some images_after

-- the next image was read, or there is none
abbrev pub ShowsNext : (old new : Option (List (List ℕ))) → Option (Compact ℕ) → Type 0
ShowsNext None new next = ⊤
ShowsNext (Some images) new None = images ≡ []
ShowsNext (Some images) new (Some s) = ShowsFirst images s new

-- the next image is the first that was left, and is of no seed
pub record PassesFirst (images : List (List ℕ)) (left : Option (List (List ℕ))) : Type 0 where
  pub image : List ℕ
  pub images_after : List (List ℕ)
  pub parted : images ≡ image ∷ images_after
  pub is_none : IsOfNoSeed image
  pub leaves : left ≡ Some images_after

-- .. if this is the failure of its bytes
abbrev pub PassesNext : (old new : Option (List (List ℕ))) → Failure → Type 0
PassesNext None new failure = ⊤
PassesNext (Some images) new failure = is_fault failure ≡ true → PassesFirst images new

-- the next image was read, or is passed over, or there is none
abbrev pub SeesNext : (old new : Option (List (List ℕ))) → Option Seen → Type 0
SeesNext None new next = ⊤
SeesNext (Some images) new None = images ≡ []
SeesNext (Some images) new (Some (Sketch s)) = ShowsFirst images s new
SeesNext (Some images) new (Some (Passed failure)) = PassesNext (Some images) new failure

-- the failure of an image that is passed over, if one is, is of this kind
abbrev pub IfPassed : Option Seen → (Failure → Type 0) → Type 0
IfPassed (Some (Passed failure)) P = P failure
IfPassed _ P = ⊤

-- the line of a sketch under a name is appended to what is shown, or the failure of an image to those that were passed over
abbrev pub IsAppended : OptionValues
    → (name : List ℕ)
    → Seen
    → (shown : List ℕ)
    → (passed : List Failure)
    → (new_shown : List ℕ)
    → (new_passed : List Failure)
    → Type 0
IsAppended options name (Sketch s) shown passed new_shown new_passed = (new_shown ≡ shown ++ shown_text options name s) × (new_passed ≡ passed)
IsAppended options name (Passed failure) shown passed new_shown new_passed = (new_shown ≡ shown) × (new_passed ≡ passed ++ failure ∷ [])
