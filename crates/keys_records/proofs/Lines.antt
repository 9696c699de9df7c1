-- The lines of what is passed on of records.
use Rattle.std.proofs.Common.{◌≡◌, ◌≢◌, ℕ, ◌+◌, true, false, cond, List, [], ◌∷◌, ◌++◌, map, refl, ap, ◌∙◌, arith, append_assoc}
use Rattle.std.proofs.lemmas.Bool.{ne_eqb}
use Rattle.std.specs.Prelude.{⊤, All}
use Rattle.std.specs.List.{onto_first}
use Rattle.keys_lines.specs.Lines.{lines_of}
use Rattle.keys_records.specs.declared.form.Columns.{Columns}
use Rattle.keys_records.specs.Fields.{is_chosen}
use Rattle.keys_records.specs.Spelling.{chosen_value, line_from, line_of, FitLine, lines_text}
use Rattle.keys_records.proofs.Bytes.{first_of, others_of, IsShown}

-- no byte is an LF
abbrev IsOneLine : List ℕ → Type 0
IsOneLine [] = ⊤
IsOneLine (byte ∷ bytes) = (byte ≢ 10) × IsOneLine bytes

one_line-append : (front rest : List ℕ) → IsOneLine front → IsOneLine rest → IsOneLine (front ++ rest)
one_line-append [] rest first second = second
one_line-append (byte ∷ front) rest first second = (first.0, one_line-append front rest first.1 second)

value_is : (value : List ℕ) → All IsShown value → IsOneLine value
value_is [] all = tt
value_is (byte ∷ value) all = ((first_of IsShown byte value all).0, value_is value (others_of IsShown byte value all))

chosen_is : (columns : Columns) (number : ℕ) (value : List ℕ) → (is_chosen columns number ≡ true → All IsShown value) → IsOneLine (chosen_value columns number value)
chosen_is columns number value fits = (elim (is_chosen columns number) as (λ b. is_chosen columns number ≡ b → IsOneLine (cond b value [])) [
  | true ↦ λ e. value_is value (fits e)
  | false ↦ λ e. tt
]) refl

line_is : (columns : Columns) (number : ℕ) (fields : List (List ℕ)) → FitLine columns number fields → IsOneLine (line_from columns number fields)
line_is columns number [] fits = tt
line_is columns number (value ∷ []) fits = chosen_is columns number value fits.0
line_is columns number (value ∷ next ∷ fields) fits =
    one_line-append (chosen_value columns number value) (31 ∷ line_from columns (number + 1) (next ∷ fields)) (chosen_is columns number value fits.0)
    ((λ e. absurd (omega (arith, e))), line_is columns (number + 1) (next ∷ fields) fits.1)

first_line : (line rest : List ℕ) → IsOneLine line → lines_of (line ++ 10 ∷ rest) ≡ line ∷ lines_of rest
first_line [] rest is = refl
first_line (byte ∷ line) rest is = rw (ne_eqb byte 10 is.0) (ap (onto_first byte) (first_line line rest is.1))

pub lines_are : (columns : Columns) (records : List (List (List ℕ))) → All (FitLine columns 1) records → lines_of (lines_text columns records) ≡ map (line_of columns) records
lines_are columns [] fits = refl
lines_are columns (fields ∷ records) fits =
    let line = line_of columns fields in
    ap lines_of (append_assoc line (10 ∷ []) (lines_text columns records))
    ∙ first_line line (lines_text columns records) (line_is columns 1 fields (first_of (FitLine columns 1) fields records fits))
    ∙ ap (λ lines. line ∷ lines) (lines_are columns records (others_of (FitLine columns 1) fields records fits))
