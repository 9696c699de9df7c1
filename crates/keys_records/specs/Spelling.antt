-- The records that a text spells (RFC 4180), and the line that each record is passed on as.
use Rattle.std.specs.Prelude.{ℕ, ◌≡◌, ◌≢◌, ◌+◌, ◌<◌, ◌==◌, true, List, [], ◌∷◌, ◌++◌, All, flat_map, length, drop, if◌then◌else◌}
use Rattle.keys_records.specs.declared.form.Columns.{Columns}
use Rattle.keys_records.specs.declared.form.Form.{Form}
use Rattle.keys_records.specs.Fields.{is_chosen}

-- ---- what a text spells

-- a byte may separate fields: it is no quote and no part of a line end
abbrev pub IsSeparator : (byte : ℕ) → Type 0
IsSeparator byte = (byte ≢ 34) × (byte ≢ 10) × (byte ≢ 13)

-- a value may be spelled without quotes: it has no separator, no quote, and no part of a line end
abbrev pub IsPlain : (separator : ℕ) (value : List ℕ) → Type 0
IsPlain separator value = All (λ byte. (byte ≢ separator) × (byte ≢ 34) × (byte ≢ 10) × (byte ≢ 13)) value

-- a value with each quote doubled
abbrev pub doubled : (value : List ℕ) → List ℕ
doubled [] = []
doubled (byte ∷ value) = if byte == 34 then 34 ∷ 34 ∷ doubled value else byte ∷ doubled value

-- a value is spelled by bytes: as it is, or between quotes
pub data IsSpelled (separator : ℕ) : (value bytes : List ℕ) → Type 0 where
  plain : (value : List ℕ) → IsPlain separator value → IsSpelled separator value value
  quoted : (value : List ℕ) → IsSpelled separator value (34 ∷ (doubled value ++ 34 ∷ []))

-- the fields of a record are spelled by bytes, with a separator between two
pub data IsRecord (separator : ℕ) : (fields : List (List ℕ)) (bytes : List ℕ) → Type 0 where
  last : (value bytes : List ℕ) → IsSpelled separator value bytes → IsRecord separator (value ∷ []) bytes
  more : (value bytes : List ℕ) (fields : List (List ℕ)) (others : List ℕ) →
      IsSpelled separator value bytes → IsRecord separator fields others → IsRecord separator (value ∷ fields) (bytes ++ separator ∷ others)

-- LF or CR LF
pub data IsLineEnd : (bytes : List ℕ) → Type 0 where
  lf : IsLineEnd (10 ∷ [])
  cr_lf : IsLineEnd (13 ∷ 10 ∷ [])

-- the records of a text; each has a line end, which the last may lack if it has a byte
pub data AreRecords (separator : ℕ) : (records : List (List (List ℕ))) (text : List ℕ) → Type 0 where
  none : AreRecords separator [] []
  unended : (fields : List (List ℕ)) (bytes : List ℕ) → IsRecord separator fields bytes → 0 < length bytes → AreRecords separator (fields ∷ []) bytes
  ended : (fields : List (List ℕ)) (bytes end : List ℕ) (records : List (List (List ℕ))) (text : List ℕ) →
      IsRecord separator fields bytes → IsLineEnd end → AreRecords separator records text → AreRecords separator (fields ∷ records) (bytes ++ (end ++ text))

-- ---- the lines of records

-- the value of a field, if the field with this number is chosen
abbrev pub chosen_value : Columns → (number : ℕ) (value : List ℕ) → List ℕ
chosen_value columns number value = if is_chosen columns number then value else []

-- the values of the chosen fields, and nothing for the others, with the byte 31 between two; the first has this number
abbrev pub line_from : Columns → (number : ℕ) (fields : List (List ℕ)) → List ℕ
line_from columns number [] = []
line_from columns number (value ∷ []) = chosen_value columns number value
line_from columns number (value ∷ next ∷ fields) = chosen_value columns number value ++ 31 ∷ line_from columns (number + 1) (next ∷ fields)

-- the line of a record
abbrev pub line_of : Columns → (fields : List (List ℕ)) → List ℕ
line_of columns fields = line_from columns 1 fields

-- each chosen value can be in a line: it has no LF, and no byte 31
abbrev pub FitLine : Columns → (number : ℕ) (fields : List (List ℕ)) → Type 0
FitLine columns number [] = Unit {0}
FitLine columns number (value ∷ fields) =
    (is_chosen columns number ≡ true → All (λ byte. (byte ≢ 10) × (byte ≢ 31)) value) × FitLine columns (number + 1) fields

-- the records that are passed on: not the first, if it is a header
abbrev pub passed : Form → (records : List (List (List ℕ))) → List (List (List ℕ))
passed form records = if form.header then drop 1 records else records

-- the lines of records, each with its LF
abbrev pub lines_text : Columns → (records : List (List (List ℕ))) → List ℕ
lines_text columns records = flat_map (λ fields. line_of columns fields ++ 10 ∷ []) records

-- the records of a text in this form can be passed on as lines
abbrev pub HasRecords : Form → (records : List (List (List ℕ))) (text : List ℕ) → Type 0
HasRecords form records text = AreRecords form.separator records text × All (FitLine form.columns 1) (passed form records)
