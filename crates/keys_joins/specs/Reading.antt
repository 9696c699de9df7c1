-- Files of groups, read one after another.
use Rattle.std.specs.Prelude.{ℕ, ◌≡◌, ◌≢◌, ⊤, List, [], ◌∷◌, ◌++◌, length, Option, Some, None, IfSome, Vec}
use Rattle.std.specs.Option.{option_map}
use Rattle.sketch_base.specs.declared.error.ErrorKind.TheVariants.{OutOfMemory}
use Rattle.keys_lines.specs.Lines.{lines_of}
use Rattle.keys_sketches.specs.Refusals.{HasFault}
use Rattle.keys_groups.specs.United.{HasFirstFlawed, HasUnions, ListsUnions}
use Rattle.keys_groups.specs.declared.united.LineFlaw.{LineFlaw}
use Rattle.keys_groups.specs.declared.united.UnitedGroups.{UnitedGroups}
use Rattle.keys_groups.specs.declared.uniting.UniteError.{UniteError}
use Rattle.keys_groups.specs.declared.uniting.UniteError.TheVariants.{Refused, Failed, Flawed}
use Rattle.keys_joins.specs.Tables.{FileGroups, HasGroupsOf}
use Rattle.keys_joins.specs.Joins.{AreGroupsOf, IsMinusText}
use Rattle.keys_joins.specs.declared.tables.SketchTable.{SketchTable}

-- the text of the only source, which may have been taken, if it is known
abbrev pub text_of_one : {R : Type 0} → (remaining : R → Option (List ℕ)) → Option R → Option (List (List ℕ))
text_of_one remaining None = Some []
text_of_one remaining (Some source) = option_map (λ text. text ∷ []) (remaining source)

-- in some of these texts the first line with a flaw has this number and this flaw
abbrev pub HasFlawedIn : (seed number : ℕ) → LineFlaw → (texts : List (List ℕ)) → Type 0
HasFlawedIn seed number flaw texts = HasFault (λ text. HasFirstFlawed seed number flaw (text ∷ [])) texts

-- files of groups are not joined: memory was refused, a source failed, or a line of a text has a flaw
abbrev pub IsJoinError : (seed : ℕ) → (texts : Option (List (List ℕ))) → UniteError → Type 0
IsJoinError seed texts (Refused kind) = kind ≡ OutOfMemory
IsJoinError seed texts (Failed error) = ⊤
IsJoinError seed texts (Flawed number flaw) = IfSome texts (HasFlawedIn seed number flaw)

-- the next groups are those of the first text that was left
pub record HasFirstUnions (seed lg_k : ℕ) (texts : List (List ℕ)) (groups : UnitedGroups) (left : Option (List (List ℕ))) : Type 0 where
  pub text : List ℕ
  pub texts_left : List (List ℕ)
  pub parted : texts ≡ text ∷ texts_left
  pub has : HasUnions seed lg_k (lines_of text) groups
  pub leaves : left ≡ Some texts_left

-- .. or there is no text
abbrev pub HasNextUnions : (seed lg_k : ℕ) → (old new : Option (List (List ℕ))) → Option UnitedGroups → Type 0
HasNextUnions seed lg_k None new groups = ⊤
HasNextUnions seed lg_k (Some texts) new None = texts ≡ []
HasNextUnions seed lg_k (Some texts) new (Some groups) = HasFirstUnions seed lg_k texts groups new

-- a table has the groups of a text
abbrev pub IsTableOf : (seed lg_k : ℕ) → (text : List ℕ) → SketchTable → Type 0
IsTableOf seed lg_k text table = (file : FileGroups) × AreGroupsOf seed lg_k text file × HasGroupsOf file table.map

-- each table has the groups of its own text
abbrev pub AreTables : (seed lg_k : ℕ) → (texts : List (List ℕ)) → List SketchTable → Type 0
AreTables seed lg_k [] [] = ⊤
AreTables seed lg_k (text ∷ texts) (table ∷ tables) = IsTableOf seed lg_k text table × AreTables seed lg_k texts tables
AreTables seed lg_k [] (table ∷ tables) = ⊥
AreTables seed lg_k (text ∷ texts) [] = ⊥

-- a table of the sketches of groups was put behind others
abbrev pub PutsTable : UnitedGroups → (old new : List SketchTable) → Type 0
PutsTable groups old new =
    (table : SketchTable) × (new ≡ old ++ table ∷ [])
    × ((file : FileGroups) → ListsUnions file.sketch file.names groups → HasGroupsOf file table.map)

-- a difference by groups, or the texts are not two
abbrev pub IsMinusOf : {A : Type 0} → (seed lg_k : ℕ) → (texts : List (List ℕ)) → Option (Vec ℕ A) → Type 0
IsMinusOf seed lg_k texts None = length texts ≢ 2
IsMinusOf seed lg_k texts (Some v) = IsMinusText seed lg_k texts v.items
