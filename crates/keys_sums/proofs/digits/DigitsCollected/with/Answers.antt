use Rattle.std.proofs.Common.{◌≡◌, ◌+◌, ◌-◌, ◌*◌, ◌^◌, ◌++◌, ◌∷◌, [], Some, inl, inr, sym, subst, ◌∙◌}
use Rattle.std.proofs.lemmas.Bool.{cases_lt}
use Rattle.keys_sums.specs.Amounts.{IsRead, number_in}
use Rattle.keys_sums.specs.declared.digits.Digits.{Digits}
use Rattle.keys_sums.proofs.Numerals.{next_digit, past_digit, no_digit}
use Rattle.keys_sums.proofs.digits.DigitsCollected.with.Goals as goal

pub returns-then-not-is_ascii_digit : goal.returns-then-not-is_ascii_digit
returns-then-not-is_ascii_digit c = λ bytes is. no_digit bytes c.args.byte (sym c.is_ascii_digit.ensures.value ∙ c.if-not-is_ascii_digit.true)

pub returns-in-Spells : goal.returns-in-Spells
returns-in-Spells c = λ bytes is.
    let n = c.in-Spells.number in
    let byte = c.args.byte in
    let spells : number_in bytes ≡ Some n = subst (λ (d : Digits). IsRead bytes d) c.in-Spells.is is in
    let digit = sym c.is_ascii_digit.ensures.value ∙ c.if-not-is_ascii_digit.false in
    elim (cases_lt (n * 10 + (byte - 48)) (2 ^ 64)) [
      | inl small ↦ subst (λ (d : Digits). IsRead (bytes ++ byte ∷ []) d) (sym (c.with_digit.ensures.fits small)) (next_digit bytes n byte spells digit small)
      | inr large ↦ subst (λ (d : Digits). IsRead (bytes ++ byte ∷ []) d) (sym (c.with_digit.ensures.past large)) (past_digit bytes n byte spells digit large)
    ]
