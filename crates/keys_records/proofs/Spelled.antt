-- The lines that records are passed on as.
use Rattle.std.proofs.Common.{◌≡◌, ℕ, ◌+◌, ◌-◌, ◌<◌, Bool, true, false, cond, eqb, List, [], ◌∷◌, ◌++◌, length, drop, Option, Some, refl, sym, ap, ◌∙◌, arith, append_assoc, append-nil}
use Rattle.std.proofs.lemmas.Bool.Decides.{nat_tests}
use Rattle.std.specs.Prelude.{All}
use Rattle.std.specs.Io.KnownBytes.{prepend_known}
use Rattle.keys_records.specs.declared.form.Columns.{Columns}
use Rattle.keys_records.specs.declared.form.Form.{Form}
use Rattle.keys_records.specs.declared.place.Before.{Before}
use Rattle.keys_records.specs.declared.place.Before.TheVariants.{Record, Separator, Plain, Quoted, Quote, Return}
use Rattle.keys_records.specs.declared.place.Place.{Place}
use Rattle.keys_records.specs.declared.place.Step.TheVariants.{Shows, Drops}
use Rattle.keys_records.specs.Fields.{columns_of, is_chosen, has_first, without_first}
use Rattle.keys_records.specs.Steps.{record_place, first_place, field_place, moved, end_step, separator_step, shown_step, open_end, end_behind, shown_end, text_of}
use Rattle.keys_records.specs.Spelling.{IsSeparator, IsSpelled, IsRecord, last, more, IsLineEnd, lf, cr_lf, AreRecords, none, unended, ended, chosen_value, line_from, line_of, FitLine, passed, lines_text, HasRecords}
use Rattle.keys_records.proofs.Passing.{prepend_none}
use Rattle.keys_records.proofs.Bytes.{prepend_twice, prepend_one, first_of, others_of, IsShown, shown_at, IsStart, IsOutside, HasByte, at_separator, at_lf, at_cr, IsBehind, spelled_read}

-- ---- columns

-- the fields with these numbers, or all
abbrev pub numbered : (all : Bool) (first second third : ℕ) → Columns
numbered all first second third = record { all = all; first = first; second = second; third = third }

-- the chosen fields behind so many, counted from there
abbrev pub behind : (count : ℕ) → Columns → Columns
behind count columns = numbered columns.all (columns.first - count) (columns.second - count) (columns.third - count)

behind_0 : (columns : Columns) → behind 0 columns ≡ columns
behind_0 columns =
    let first : columns.first - 0 ≡ columns.first = omega arith in
    let second : columns.second - 0 ≡ columns.second = omega arith in
    let third : columns.third - 0 ≡ columns.third = omega arith in
    ap (λ n. numbered columns.all n (columns.second - 0) (columns.third - 0)) first
    ∙ ap (λ n. numbered columns.all columns.first n (columns.third - 0)) second
    ∙ ap (numbered columns.all columns.first columns.second) third

pub behind_more : (count : ℕ) (columns : Columns) → without_first (behind count columns) ≡ behind (count + 1) columns
behind_more count columns =
    let first : columns.first - count - 1 ≡ columns.first - (count + 1) = omega arith in
    let second : columns.second - count - 1 ≡ columns.second - (count + 1) = omega arith in
    let third : columns.third - count - 1 ≡ columns.third - (count + 1) = omega arith in
    ap (λ n. numbered columns.all n (columns.second - count - 1) (columns.third - count - 1)) first
    ∙ ap (λ n. numbered columns.all (columns.first - (count + 1)) n (columns.third - count - 1)) second
    ∙ ap (numbered columns.all (columns.first - (count + 1)) (columns.second - (count + 1))) third

same_number : (number count : ℕ) → eqb (number - count) 1 ≡ eqb number (count + 1)
same_number number count = grind (arith, nat_tests)

pub chosen_behind : (count : ℕ) (columns : Columns) → has_first (behind count columns) ≡ is_chosen columns (count + 1)
chosen_behind count columns = elim columns.all as (λ b. has_first (behind count (record columns { all = b })) ≡ is_chosen (record columns { all = b }) (count + 1)) [
  | true ↦ refl
  | false ↦ rw (same_number columns.first count, same_number columns.second count, same_number columns.third count) refl
]

-- ---- lines

-- what is between two fields
abbrev pub between : (header : Bool) → List ℕ
between header = cond header [] (31 ∷ [])

-- what is at a record's end
abbrev pub at_end : (header : Bool) → List ℕ
at_end header = cond header [] (10 ∷ [])

-- a line with these bytes between two fields
abbrev line_with : (middle : List ℕ) → Columns → (number : ℕ) (fields : List (List ℕ)) → List ℕ
line_with middle columns number [] = []
line_with middle columns number (value ∷ []) = chosen_value columns number value
line_with middle columns number (value ∷ next ∷ fields) = chosen_value columns number value ++ (middle ++ line_with middle columns (number + 1) (next ∷ fields))

line_is : (columns : Columns) (number : ℕ) (fields : List (List ℕ)) → line_with (31 ∷ []) columns number fields ≡ line_from columns number fields
line_is columns number [] = refl
line_is columns number (value ∷ []) = refl
line_is columns number (value ∷ next ∷ fields) = ap (λ line. chosen_value columns number value ++ 31 ∷ line) (line_is columns (number + 1) (next ∷ fields))

none_chosen : (number : ℕ) → is_chosen (columns_of 0 0 0) (number + 1) ≡ false
none_chosen number = let no : eqb 0 (number + 1) ≡ false = grind (arith, nat_tests) in rw no refl

header_is : (number : ℕ) (fields : List (List ℕ)) → line_with [] (columns_of 0 0 0) (number + 1) fields ≡ []
header_is number [] = refl
header_is number (value ∷ []) = rw (none_chosen number) refl
header_is number (value ∷ next ∷ fields) = rw (none_chosen number) (header_is (number + 1) (next ∷ fields))

header_fits : (number : ℕ) (fields : List (List ℕ)) → FitLine (columns_of 0 0 0) (number + 1) fields
header_fits number [] = tt
header_fits number (value ∷ fields) = ((λ chosen. absurd (grind (arith, none_chosen number, chosen))), header_fits (number + 1) fields)

line_more : (separator : ℕ) (middle : List ℕ) (columns : Columns) (number : ℕ) (value : List ℕ) (fields : List (List ℕ)) (bytes : List ℕ) → IsRecord separator fields bytes
    → line_with middle columns number (value ∷ fields) ≡ chosen_value columns number value ++ (middle ++ line_with middle columns (number + 1) fields)
line_more separator middle columns number value _ _ (last next bytes is) = refl
line_more separator middle columns number value _ _ (more next bytes fields others is are) = refl

-- ---- records

module _ (form : Form) (separator : IsSeparator form.separator) where
  pub passes_separator : (place : Place) (rest : Place → Option (List ℕ)) → shown_step (separator_step place) rest ≡ prepend_known (between place.header) (rest (field_place place))
  passes_separator place rest = elim place.header as (λ h. shown_step (cond h (Drops (field_place place)) (Shows 31 (field_place place))) rest ≡ prepend_known (between h) (rest (field_place place))) [
    | true ↦ sym (prepend_none (rest (field_place place)))
    | false ↦ prepend_one 31 (rest (field_place place))
  ]

  pub passes_end : (place : Place) (rest : Place → Option (List ℕ)) → shown_step (end_step form place) rest ≡ prepend_known (at_end place.header) (rest (record_place form))
  passes_end place rest = elim place.header as (λ h. shown_step (cond h (Drops (record_place form)) (Shows 10 (record_place form))) rest ≡ prepend_known (at_end h) (rest (record_place form))) [
    | true ↦ sym (prepend_none (rest (record_place form)))
    | false ↦ prepend_one 10 (rest (record_place form))
  ]

  pub line_end_read : (end : List ℕ) → IsLineEnd end → (place : Place) (after : Before) → IsOutside after → (text : List ℕ)
      → text_of form (moved place after) (end ++ text) ≡ prepend_known (at_end place.header) (text_of form (record_place form) text)
  line_end_read _ lf place after outside text =
      ap (λ s. shown_step s (λ next. text_of form next text)) (at_lf form separator (moved place after) after outside)
      ∙ passes_end (moved place after) (λ next. text_of form next text)
  line_end_read _ cr_lf place after outside text =
      ap (λ s. shown_step s (λ next. text_of form next (10 ∷ text))) (at_cr form separator (moved place after) after outside)
      ∙ passes_end (moved place Return) (λ next. text_of form next text)

  module _ (columns : Columns) (header : Bool) where
    -- a place behind so many fields
    abbrev pub at : (count : ℕ) → Before → Place
    at count before = record { before = before; columns = behind count columns; header = header }

    -- where a record has been read
    record IsRead (count : ℕ) (before : Before) (fields : List (List ℕ)) (bytes : List ℕ) : Type 0 where
      passed_fields : ℕ
      after : Before
      outside : IsOutside after
      some : 0 < length bytes → HasByte after
      later : HasByte before → HasByte after
      passes : (rest : List ℕ) → text_of form (at count before) (bytes ++ rest) ≡ prepend_known (line_with (between header) columns (count + 1) fields) (text_of form (at passed_fields after) rest)

    -- the value of a field is read
    value_read : (count : ℕ) (before : Before) (value bytes : List ℕ) → IsSpelled form.separator value bytes → IsStart before → (is_chosen columns (count + 1) ≡ true → All IsShown value)
        → IsBehind form separator (at count before) before value bytes
    value_read count before value bytes is start fits = spelled_read form separator value bytes is (at count before) before start (λ e. fits (sym (chosen_behind count columns) ∙ e))

    shown_is : (count : ℕ) (before : Before) (value : List ℕ) → shown_at (at count before) value ≡ chosen_value columns (count + 1) value
    shown_is count before value = ap (λ b. cond b value []) (chosen_behind count columns)

    record_read : (fields : List (List ℕ)) (bytes : List ℕ) → IsRecord form.separator fields bytes → (count : ℕ) (before : Before) → IsStart before → FitLine columns (count + 1) fields → IsRead count before fields bytes
    record_read _ _ (last value bytes is) count before start fits =
        let first = value_read count before value bytes is start fits.0 in
        record {
          passed_fields = count;
          after = first.after;
          outside = first.outside;
          some = first.some;
          later = first.later;
          passes = λ rest. first.passes rest ∙ ap (λ front. prepend_known front (text_of form (at count first.after) rest)) (shown_is count before value);
        }
    record_read _ _ (more value bytes fields others is are) count before start fits =
        let first = value_read count before value bytes is start fits.0 in
        let behind_it = record_read fields others are (count + 1) Separator tt fits.1 in
        record {
          passed_fields = behind_it.passed_fields;
          after = behind_it.after;
          outside = behind_it.outside;
          some = λ _. behind_it.later tt;
          later = λ _. behind_it.later tt;
          passes = λ rest.
              let left = text_of form (at behind_it.passed_fields behind_it.after) rest in
              let line = line_with (between header) columns (count + 1 + 1) fields in
              ap (text_of form (at count before)) (append_assoc bytes (form.separator ∷ others) rest)
              ∙ first.passes (form.separator ∷ (others ++ rest))
              ∙ ap (λ front. prepend_known front (text_of form (at count first.after) (form.separator ∷ (others ++ rest)))) (shown_is count before value)
              ∙ ap (prepend_known (chosen_value columns (count + 1) value)) (
              ap (λ s. shown_step s (λ next. text_of form next (others ++ rest))) (at_separator form separator (at count first.after) first.after first.outside)
              ∙ passes_separator (at count first.after) (λ next. text_of form next (others ++ rest))
              ∙ ap (λ c. prepend_known (between header) (text_of form record { before = Separator; columns = c; header = header } (others ++ rest))) (behind_more count columns)
              ∙ ap (prepend_known (between header)) (behind_it.passes rest)
              ∙ prepend_twice (between header) line left
              )
              ∙ prepend_twice (chosen_value columns (count + 1) value) (between header ++ line) left
              ∙ ap (λ front. prepend_known front left) (sym (line_more form.separator (between header) columns (count + 1) value fields others are));
        }

    ended_read : (fields : List (List ℕ)) (bytes end : List ℕ) (text : List ℕ) → IsRecord form.separator fields bytes → IsLineEnd end → FitLine columns 1 fields
        → text_of form (at 0 Record) (bytes ++ (end ++ text)) ≡ prepend_known (line_with (between header) columns 1 fields ++ at_end header) (text_of form (record_place form) text)
    ended_read fields bytes end text is line_end fits =
        let whole = record_read fields bytes is 0 Record tt fits in
        whole.passes (end ++ text)
        ∙ ap (prepend_known (line_with (between header) columns 1 fields)) (line_end_read end line_end (at whole.passed_fields whole.after) whole.after whole.outside text)
        ∙ prepend_twice (line_with (between header) columns 1 fields) (at_end header) (text_of form (record_place form) text)

    open_is : (before : Before) → IsOutside before → HasByte before → end_behind header before ≡ open_end header
    open_is before outside has = elim before as (λ b. IsOutside b → HasByte b → end_behind header b ≡ open_end header) [
      | Record ↦ λ _ h. absurd h
      | Separator ↦ λ _ _. refl
      | Plain ↦ λ _ _. refl
      | Quoted ↦ λ h _. absurd h
      | Quote ↦ λ _ _. refl
      | Return ↦ λ h _. absurd h
    ] outside has

    shown_open : (h : Bool) → shown_end (open_end h) ≡ Some (at_end h)
    shown_open true = refl
    shown_open false = refl

    unended_read : (fields : List (List ℕ)) (bytes : List ℕ) → IsRecord form.separator fields bytes → 0 < length bytes → FitLine columns 1 fields
        → text_of form (at 0 Record) bytes ≡ Some (line_with (between header) columns 1 fields ++ at_end header)
    unended_read fields bytes is some fits =
        let whole = record_read fields bytes is 0 Record tt fits in
        ap (text_of form (at 0 Record)) (sym (append-nil bytes))
        ∙ whole.passes []
        ∙ ap (prepend_known (line_with (between header) columns 1 fields)) (ap shown_end (open_is whole.after whole.outside (whole.some some)) ∙ shown_open header)

  -- the start of a record that isn't the header
  pub record_at : at form.columns false 0 Record ≡ record_place form
  record_at = ap (λ c. record { before = Record; columns = c; header = false }) (behind_0 form.columns)

  records_read : (records : List (List (List ℕ))) (text : List ℕ) → AreRecords form.separator records text → All (FitLine form.columns 1) records → text_of form (record_place form) text ≡ Some (lines_text form.columns records)
  records_read _ _ none fits = refl
  records_read _ _ (unended fields bytes is some) fits =
      ap (λ p. text_of form p bytes) (sym record_at)
      ∙ unended_read form.columns false fields bytes is some (first_of (FitLine form.columns 1) fields [] fits)
      ∙ ap (λ line. Some (line ++ 10 ∷ [])) (line_is form.columns 1 fields)
      ∙ ap Some (sym (append-nil (line_of form.columns fields ++ 10 ∷ [])))
  records_read _ _ (ended fields bytes end records text is line_end are) fits =
      ap (λ p. text_of form p (bytes ++ (end ++ text))) (sym record_at)
      ∙ ended_read form.columns false fields bytes end text is line_end (first_of (FitLine form.columns 1) fields records fits)
      ∙ ap (prepend_known (line_with (31 ∷ []) form.columns 1 fields ++ 10 ∷ [])) (records_read records text are (others_of (FitLine form.columns 1) fields records fits))
      ∙ ap (λ line. Some ((line ++ 10 ∷ []) ++ lines_text form.columns records)) (line_is form.columns 1 fields)

  header_read : (records : List (List (List ℕ))) (text : List ℕ) → AreRecords form.separator records text → All (FitLine form.columns 1) (drop 1 records) → text_of form (at (columns_of 0 0 0) true 0 Record) text ≡ Some (lines_text form.columns (drop 1 records))
  header_read _ _ none fits = refl
  header_read _ _ (unended fields bytes is some) fits =
      unended_read (columns_of 0 0 0) true fields bytes is some (header_fits 0 fields)
      ∙ ap (λ line. Some (line ++ [])) (header_is 0 fields)
  header_read _ _ (ended fields bytes end records text is line_end are) fits =
      ended_read (columns_of 0 0 0) true fields bytes end text is line_end (header_fits 0 fields)
      ∙ ap (λ line. prepend_known (line ++ []) (text_of form (record_place form) text)) (header_is 0 fields)
      ∙ prepend_none (text_of form (record_place form) text)
      ∙ records_read records text are fits

  pub all_read : (records : List (List (List ℕ))) (text : List ℕ) → HasRecords form records text → text_of form (first_place form) text ≡ Some (lines_text form.columns (passed form records))
  all_read records text has = (elim form.header as (λ h. All (FitLine form.columns 1) (cond h (drop 1 records) records) → text_of form (cond h (record { before = Record; columns = columns_of 0 0 0; header = true }) (record_place form)) text ≡ Some (lines_text form.columns (cond h (drop 1 records) records))) [
    | true ↦ λ fits. header_read records text has.0 fits
    | false ↦ λ fits. records_read records text has.0 fits
  ]) has.1
