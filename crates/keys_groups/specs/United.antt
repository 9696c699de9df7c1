-- Groups of images in lines, and their unions.
use Rattle.std.specs.Prelude.{ℕ, ◌≡◌, ◌≤◌, ◌⊎◌, ◌+◌, ◌-◌, ◌^◌, nat_lt, min, ⊤, Bool, true, false, List, [], ◌∷◌}
use Rattle.std.specs.Prelude.{◌++◌, map, Option, Some, None, IfSome, Vec, length, flat_map, unwrap_or}
use Rattle.std.specs.Prelude.{if◌then◌else◌}
use Rattle.std.specs.List.{filter, AllByRecursion}
use Rattle.std.specs.Option.{option_map_or}
use Rattle.std.specs.List.Sorted.{IsStrictlySortedBy}
use Rattle.std.specs.BTreeMap.{BTreeMap, get_by}
use Rattle.std.specs.Ordering.{nat_cmp}
use Rattle.std.specs.Cmp.Lexicographic.{slice_cmp}
use Rattle.std.specs.Str.{bytes_eq}
use Rattle.sketch_base.specs.Seed.{seed_hash}
use Rattle.sketch_base.specs.declared.error.ErrorKind.{ErrorKind}
use Rattle.sketch_base.specs.declared.error.ErrorKind.TheVariants.{OutOfMemory}
use Rattle.core_compact.specs.CompactState.{Compact, ordered_sketch}
use Rattle.core_laws.specs.Entries.{hash_key}
use Rattle.core_operators.specs.Union.{Union, union_value}
use Rattle.theta_sketches.specs.Image.{IsReadable, written}
use Rattle.keys_lines.specs.Lines.{lines_of, lines_of_all}
use Rattle.keys_sketches.specs.Keys.{HaveSameLines, sketch_of_value}
use Rattle.keys_sketches.specs.Shards.{united, values_of_sketches, AreRead}
use Rattle.keys_sketches.specs.Header.{flaw_of, image_length}
use Rattle.keys_sketches.specs.Hex.{hex_of, bytes_of_hex}
use Rattle.keys_sketches.specs.Unions.{IsReady, HasUnited, IsUnitedImage}
use Rattle.keys_groups.specs.Tabs.{has_tab, before_tab, behind_tab}
use Rattle.keys_groups.specs.Groups.{AreGroups, group_sketch}
use Rattle.keys_groups.specs.declared.groups.Grouping.{Grouping}
use Rattle.keys_groups.specs.declared.united.UnitedGroups.{UnitedGroups}
use Rattle.keys_groups.specs.declared.united.LineFlaw.{LineFlaw}
use Rattle.keys_groups.specs.declared.united.LineFlaw.TheVariants.{NoTab, NoHex, NoImage}
use Rattle.keys_groups.specs.declared.united.AddError.{AddError}
use Rattle.keys_groups.specs.declared.united.AddError.TheVariants.{Memory, Flawed as FlawedLine}
use Rattle.keys_groups.specs.declared.uniting.UniteError.{UniteError}
use Rattle.keys_groups.specs.declared.uniting.UniteError.TheVariants.{Refused, Failed, Flawed}

-- ---- lines with an image

-- the line of a group: its name, a tab (9), its image in hexadecimal digits, and an LF (10)
abbrev pub image_line : (name image : List ℕ) → List ℕ
image_line name image = name ++ 9 ∷ hex_of image ++ 10 ∷ []

-- The bytes that the digits after the last tab of a line spell; no bytes, which can't be read as a sketch, if they
-- spell none.
abbrev pub image_in : List ℕ → List ℕ
image_in line = unwrap_or (bytes_of_hex (behind_tab line)) []

-- the images in the lines of the group of this name
abbrev pub images_in : (name : List ℕ) → (lines : List (List ℕ)) → List (List ℕ)
images_in name lines = map image_in (filter (λ line. bytes_eq (before_tab line) name) lines)

-- the names of the groups of these lines: each once, in the ascending order of their bytes, and no others
pub record AreNames (lines names : List (List ℕ)) : Type 0 where
  pub ascending : IsStrictlySortedBy (slice_cmp nat_cmp) names
  pub same : HaveSameLines names (map before_tab lines)

-- the sketch of the union of the sketches in images
abbrev pub IsUnitedSketch : (seed lg_k : ℕ) → (images : List (List ℕ)) → Compact ℕ → Type 0
IsUnitedSketch seed lg_k images s =
    (sketches : List (Compact ℕ)) × AreRead seed images sketches × (s ≡ sketch_of_value seed (united lg_k (values_of_sketches sketches)))

-- each name has the sketch of the union of the images of its group
abbrev pub AreUnionSketches : (seed lg_k : ℕ) → (lines : List (List ℕ)) → (sketch : List ℕ → Compact ℕ) → Type 0
AreUnionSketches seed lg_k lines sketch = (name : List ℕ) → IsUnitedSketch seed lg_k (images_in name lines) (sketch name)

-- a line for each name, with the image of its sketch
abbrev pub sketched_text : (sketch : List ℕ → Compact ℕ) → (names : List (List ℕ)) → List ℕ
sketched_text sketch names = flat_map (λ name. image_line name (written (sketch name))) names

-- a line for each name, with the image of the union of the images of its group
abbrev pub AreUnitedLines : (seed lg_k : ℕ) → (lines names : List (List ℕ)) → List ℕ → Type 0
AreUnitedLines seed lg_k lines [] out = out ≡ []
AreUnitedLines seed lg_k lines (name ∷ names) out =
    (image rest : List ℕ) × IsUnitedImage seed lg_k (images_in name lines) image × (out ≡ image_line name image ++ rest)
    × AreUnitedLines seed lg_k lines names rest

-- a line for each group of these lines, in ascending order, with the image of the union of its own images
abbrev pub IsUnitedText : (seed lg_k : ℕ) → (lines : List (List ℕ)) → List ℕ → Type 0
IsUnitedText seed lg_k lines out = (names : List (List ℕ)) × AreNames lines names × AreUnitedLines seed lg_k lines names out

-- a line for each group of these lines, in ascending order, with the image of the sketch of its own lines
abbrev pub IsSketchedText : Grouping → (lines : List (List ℕ)) → List ℕ → Type 0
IsSketchedText grouping lines out =
    (names : List (List ℕ)) × AreGroups grouping.by lines names
    × (out ≡ sketched_text (group_sketch grouping lines) names)

-- the same grouping, with sketches of 2^own nominal entries
abbrev pub of_size : Grouping → (own : ℕ) → Grouping
of_size grouping own = record grouping { lg_k = own }

-- a text has the groups of the lines of its sources, each source cut into lines by itself, in sketches of at least the
-- grouping's nominal entries, and at most the 2^26 that a sketch may have
abbrev pub IsSketchedPart : Grouping → (part : List (List ℕ)) → (text : List ℕ) → Type 0
IsSketchedPart grouping part text = (own : ℕ) × (grouping.lg_k ≤ own) × (own ≤ 26) × IsSketchedText (of_size grouping own) (lines_of_all part) text

-- .. each text of its own sources
abbrev pub AreSketchedTexts : Grouping → (sources : List (List (List ℕ))) → (texts : List (List ℕ)) → Type 0
AreSketchedTexts grouping [] [] = ⊤
AreSketchedTexts grouping (part ∷ parts) (text ∷ texts) = IsSketchedPart grouping part text × AreSketchedTexts grouping parts texts
AreSketchedTexts grouping [] (text ∷ texts) = ⊥
AreSketchedTexts grouping (part ∷ parts) [] = ⊥

-- ---- groups while images are united

-- the union of the group of this name, if there is one
abbrev pub union_at : {A P : Type 0} → BTreeMap (Vec ℕ A) (Union ℕ P) → (name : List ℕ) → Option (Union ℕ P)
union_at groups name = get_by (λ key. slice_cmp nat_cmp name key.items) groups

-- a group with these images has their union, and a group without images is none
abbrev pub IsGroupUnion : {P : Type 0} → (seed lg_k : ℕ) → (images : List (List ℕ)) → Option (Union ℕ P) → Type 0
IsGroupUnion seed lg_k images None = images ≡ []
IsGroupUnion seed lg_k images (Some u) = (images ≡ [] → ⊥) × HasUnited seed lg_k images u

-- each group of these lines has the union of its own images
abbrev pub IsUniting : {A P : Type 0} → (seed lg_k : ℕ) → (lines : List (List ℕ)) → BTreeMap (Vec ℕ A) (Union ℕ P) → Type 0
IsUniting seed lg_k lines groups = (name : List ℕ) → IsGroupUnion seed lg_k (images_in name lines) (union_at groups name)

-- each group is ready for images of this seed
abbrev pub AreReady : {A P : Type 0} → (seed : ℕ) → BTreeMap (Vec ℕ A) (Union ℕ P) → Type 0
AreReady seed groups = (name : List ℕ) → IfSome (union_at groups name) (IsReady seed)

-- the group of this name has this union now, and the others are as they were
abbrev pub SetsUnion : {A P : Type 0} → (name : List ℕ) → Union ℕ P → (old new : BTreeMap (Vec ℕ A) (Union ℕ P)) → Type 0
SetsUnion name u old new = (other : List ℕ) → union_at new other ≡ (if bytes_eq name other then Some u else union_at old other)

-- a union has united one image more, and is still ready
abbrev pub Unites : {P : Type 0} → (seed : ℕ) → (image : List ℕ) → (old new : Union ℕ P) → Type 0
Unites seed image old new =
    ((lg_k : ℕ) (images : List (List ℕ)) → HasUnited seed lg_k images old → HasUnited seed lg_k (images ++ image ∷ []) new)
    × IsReady seed new

-- the image was united into the group of this name, or there is none and nothing has changed
abbrev pub UpdatesUnion : {A P : Type 0} → (seed : ℕ) → (name image : List ℕ) → (old new : BTreeMap (Vec ℕ A) (Union ℕ P)) → (found : Bool) → Type 0
UpdatesUnion {A} {P} seed name image old new true =
    (u w : Union ℕ P) × (union_at old name ≡ Some u) × Unites seed image u w × SetsUnion name w old new
UpdatesUnion seed name image old new false = (new ≡ old) × (union_at old name ≡ None)

-- the group of this name has this image alone now
abbrev pub BeginsUnion : {A P : Type 0} → (seed lg_k : ℕ) → (name image : List ℕ) → (old new : BTreeMap (Vec ℕ A) (Union ℕ P)) → Type 0
BeginsUnion {A} {P} seed lg_k name image old new =
    (w : Union ℕ P) × HasUnited seed lg_k (image ∷ []) w × IsReady seed w × SetsUnion name w old new

-- ---- groups once all images are united

-- the sketch of a union, ordered
abbrev pub sketch_of_union : {P : Type 0} → Union ℕ P → Compact ℕ
sketch_of_union u = ordered_sketch (union_value hash_key u) u.seed_hash

-- entries are groups of these names, each with a union that has the sketch of its name
abbrev pub AreUnionsOf : {A P : Type 0} → (sketch : List ℕ → Compact ℕ) → (names : List (List ℕ)) → List (Vec ℕ A × Union ℕ P) → Type 0
AreUnionsOf sketch [] [] = ⊤
AreUnionsOf sketch (name ∷ names) (entry ∷ entries) =
    (name ≡ entry.0.items) × (sketch_of_union entry.1 ≡ sketch name) × AreUnionsOf sketch names entries
AreUnionsOf sketch [] (entry ∷ entries) = ⊥
AreUnionsOf sketch (name ∷ names) [] = ⊥

-- groups of images that are left have these names and these sketches
abbrev pub ListsUnions : (sketch : List ℕ → Compact ℕ) → (names : List (List ℕ)) → UnitedGroups → Type 0
ListsUnions sketch names groups = AreUnionsOf sketch names groups.map.entries

-- these are the groups of lines, each with the union of its own images
abbrev pub HasUnions : (seed lg_k : ℕ) → (lines : List (List ℕ)) → UnitedGroups → Type 0
HasUnions seed lg_k lines groups =
    (names : List (List ℕ)) × (sketch : List ℕ → Compact ℕ) × AreNames lines names × AreUnionSketches seed lg_k lines sketch
    × ListsUnions sketch names groups

-- each union has a result: it is of some seed, and hasn't failed
abbrev pub AreSound : UnitedGroups → Type 0
AreSound groups = (seed : ℕ) × AllByRecursion (λ entry. IsReady seed entry.1) groups.map.entries

-- ---- lines that can't be united

-- whether something follows the image that bytes begin, if they begin one
abbrev pub is_followed : List ℕ → Bool
is_followed image = option_map_or (λ size. nat_lt size (length image)) (image_length image) false

-- bytes are not read as one sketch of this seed, or something follows its image
abbrev pub IsNotOneImage : (seed : ℕ) → List ℕ → Type 0
IsNotOneImage seed image = (IsReadable image (seed_hash seed) → ⊥) ⊎ (is_followed image ≡ true)

-- a line has this flaw
abbrev pub IsFlawed : (seed : ℕ) → (line : List ℕ) → LineFlaw → Type 0
IsFlawed seed line NoTab = has_tab line ≡ false
IsFlawed seed line NoHex = bytes_of_hex (behind_tab line) ≡ None
IsFlawed seed line (NoImage flaw) = (flaw ≡ flaw_of (seed_hash seed) (image_in line)) × IsNotOneImage seed (image_in line)

-- a line is not added: memory was refused, or it has this flaw
abbrev pub IsAddError : (seed : ℕ) → (line : List ℕ) → AddError → Type 0
IsAddError seed line Memory = ⊤
IsAddError seed line (FlawedLine flaw) = IsFlawed seed line flaw

-- a line has no flaw, and none of these has one
abbrev pub IsFlawless : (seed : ℕ) → (line : List ℕ) → Type 0
IsFlawless seed line = (flaw : LineFlaw) → IsFlawed seed line flaw → ⊥

abbrev pub AreFlawless : (seed : ℕ) → (lines : List (List ℕ)) → Type 0
AreFlawless seed lines = AllByRecursion (IsFlawless seed) lines

-- lines are united, after those before, and none of them has a flaw
pub record AreAdded {A P : Type 0} (seed lg_k : ℕ) (before lines : List (List ℕ)) (groups : BTreeMap (Vec ℕ A) (Union ℕ P)) : Type 0 where
  pub uniting : IsUniting seed lg_k (before ++ lines) groups
  pub flawless : AreFlawless seed lines

-- the first of these lines that has a flaw has this one, and this number; any number above 2^64 - 1 is reported as that
pub record IsFirstFlawed (seed number : ℕ) (flaw : LineFlaw) (lines : List (List ℕ)) : Type 0 where
  pub before : List (List ℕ)
  pub line : List ℕ
  pub others : List (List ℕ)
  pub parted : lines ≡ before ++ line ∷ others
  pub flawless : AreFlawless seed before
  pub numbered : number ≡ min (length before + 1) (2 ^ 64 - 1)
  pub flawed : IsFlawed seed line flaw

-- the first line of these texts that has a flaw has this one, and this number in its text
pub record HasFirstFlawed (seed number : ℕ) (flaw : LineFlaw) (texts : List (List ℕ)) : Type 0 where
  pub before : List (List ℕ)
  pub text : List ℕ
  pub others : List (List ℕ)
  pub parted : texts ≡ before ++ text ∷ others
  pub flawless : AreFlawless seed (lines_of_all before)
  pub flawed : IsFirstFlawed seed number flaw (lines_of text)

-- the line after this many others has the flaw that is reported, with its number
abbrev pub IsOfLine : (seed passed : ℕ) → (line : List ℕ) → UniteError → Type 0
IsOfLine seed passed line (Flawed number flaw) = (number ≡ min (passed + 1) (2 ^ 64 - 1)) × IsFlawed seed line flaw
IsOfLine seed passed line (Refused kind) = ⊤
IsOfLine seed passed line (Failed error) = ⊤

-- lines are not united: memory was refused, or their source failed, or a line has a flaw
abbrev pub IsOfLines : UniteError → Type 0
IsOfLines (Refused kind) = kind ≡ OutOfMemory
IsOfLines (Failed error) = ⊤
IsOfLines (Flawed number flaw) = ⊤

-- a text is reported to have failed only if it may fail
abbrev pub FailsIf : (may_fail : Bool) → UniteError → Type 0
FailsIf may_fail (Failed error) = may_fail ≡ true
FailsIf may_fail (Refused kind) = ⊤
FailsIf may_fail (Flawed number flaw) = ⊤

-- lines are not united, and this is then the first line with a flaw
abbrev pub ReportsFirst : (seed : ℕ) → (lines : Option (List (List ℕ))) → UniteError → Type 0
ReportsFirst seed lines (Flawed number flaw) = IfSome lines (IsFirstFlawed seed number flaw)
ReportsFirst seed lines (Refused kind) = ⊤
ReportsFirst seed lines (Failed error) = ⊤

-- images are not united: a refusal before any is read, refused memory, a failed source, or the first line that has a flaw
abbrev pub IsUniteError : (seed : ℕ) → Option ErrorKind → (texts : Option (List (List ℕ))) → UniteError → Type 0
IsUniteError seed refusal texts (Refused kind) = (refusal ≡ Some kind) ⊎ (kind ≡ OutOfMemory)
IsUniteError seed refusal texts (Failed error) = refusal ≡ None
IsUniteError seed refusal texts (Flawed number flaw) = (refusal ≡ None) × IfSome texts (HasFirstFlawed seed number flaw)
