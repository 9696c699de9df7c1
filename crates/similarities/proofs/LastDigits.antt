-- The last digits of a number, by cases.
use Rattle.std.proofs.Common.{◌≡◌, ◌/◌, ◌%◌, ◌+◌, ◌++◌, ℕ, zero, suc, [], ◌∷◌, refl, ap, arith}
use Rattle.similarities.specs.Forms.{last_digits}

-- no digit is left
pub digits_none : (places number : ℕ) → places ≡ 0 → last_digits places number ≡ []
unfolding last_digits
digits_none zero number none = refl
digits_none (suc places) number none = absurd (omega (arith, none))

-- some are
pub digits_more : (places less number : ℕ) → places ≡ suc less → last_digits places number ≡ last_digits less (number / 10) ++ ((48 + number % 10) ∷ [])
unfolding last_digits
digits_more places less number some = ap (λ (p : ℕ). last_digits p number) some
