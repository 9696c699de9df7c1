-- Lines that add numbers, and lines that are left out.
use Rattle.std.proofs.Common.{◌≡◌, ℕ, ◌+◌, Bool, false, cond, List, [], ◌∷◌, ◌++◌, length, map, drop, get_or, Option, Some, None, refl, sym, ap, ◌∙◌, arith}
use Rattle.std.specs.Prelude.{is_none, is_some}
use Rattle.std.specs.List.{count_by, filter}
use Rattle.std.specs.Option.{option_map_or}
use Rattle.keys_sums.specs.Amounts.{amount_in}
use Rattle.keys_sums.specs.declared.addends.Amount.{Amount}
use Rattle.keys_fields.specs.declared.passing.Passing.{Passing}
use Rattle.keys_fields.specs.Chosen.{line_for}
use Rattle.keys_fields.specs.Mapping.{lines_for, onto_lines}
use Rattle.keys_fields.specs.Passing.{adding, adds_number, bytes_for, ended_for, is_left_out, lacks_number, lines_text}
use Rattle.keys_fields.proofs.Reading.{count-cons}

-- one line is passed on, or left out
one_passed : (o : Option ℕ) (line : List ℕ) (lines : List (List ℕ))
    → onto_lines (Some (cond (is_none o) [] (line ++ 10 ∷ []))) (Some (lines_text lines)) ≡ Some (lines_text (cond (is_some o) (line ∷ lines) lines))
one_passed None line lines = refl
one_passed (Some n) line lines = refl

module _ (passing : Passing) (amount : Amount) where
  pub numbers_passed : (lines passed : List (List ℕ)) → map (line_for passing.layout passing.chosen) lines ≡ map Some passed
      → lines_for (bytes_for (adding passing amount)) lines ≡ Some (lines_text (filter (adds_number amount) passed))
  numbers_passed [] [] e = refl
  numbers_passed [] (line' ∷ passed) e = absurd (omega (arith, ap length e))
  numbers_passed (line ∷ lines) [] e = absurd (omega (arith, ap length e))
  numbers_passed (line ∷ lines) (line' ∷ passed) e =
      ap (λ o. onto_lines (ended_for (Some amount) o) (lines_for (bytes_for (adding passing amount)) lines)) (ap (λ os. get_or os 0 None) e)
      ∙ ap (λ known. onto_lines (ended_for (Some amount) (Some line')) known) (numbers_passed lines passed (ap (drop 1) e))
      ∙ one_passed (amount_in amount line') line' (filter (adds_number amount) passed)

  pub others_counted : (lines passed : List (List ℕ)) → map (line_for passing.layout passing.chosen) lines ≡ map Some passed
      → count_by (is_left_out (adding passing amount)) lines ≡ count_by (lacks_number (Some amount)) passed
  others_counted [] [] e = refl
  others_counted [] (line' ∷ passed) e = absurd (omega (arith, ap length e))
  others_counted (line ∷ lines) [] e = absurd (omega (arith, ap length e))
  others_counted (line ∷ lines) (line' ∷ passed) e =
      let same : is_left_out (adding passing amount) line ≡ lacks_number (Some amount) line' = ap (λ o. left_out o) (ap (λ os. get_or os 0 None) e) in
      count-cons (is_left_out (adding passing amount)) line lines
      ∙ ap (λ t. (0 + cond t 1 0) + count_by (is_left_out (adding passing amount)) lines) same
      ∙ ap (λ n. (0 + cond (lacks_number (Some amount) line') 1 0) + n) (others_counted lines passed (ap (drop 1) e))
      ∙ sym (count-cons (lacks_number (Some amount)) line' passed)
    where
      left_out : Option (List ℕ) → Bool
      left_out o = option_map_or (λ l. lacks_number (Some amount) l) o false
