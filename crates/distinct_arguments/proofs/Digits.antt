-- Numbers in decimal digits.
use Rattle.std.proofs.Common.{◌≡◌, ℕ, ◌<◌, ◌≤◌, ◌^◌, Bool, true, false, cond, List, [], ◌∷◌, length, drop, slice_index, Some, None, refl, ap, subst, arith}
use Rattle.std.specs.Prelude.{◌&&◌, ◌==◌, not, nat_le}
use Rattle.std.specs.Char.{is_ascii_digit, digit_value}
use Rattle.std.specs.Str.{all_ascii_digits}
use Rattle.std.specs.Str.Parse.{AllDigits, IsNumeral, digits_value, without_leading_plus}
use Rattle.std.proofs.lemmas.Bool.Decides.{nat_tests}
use Rattle.distinct_arguments.specs.Words.{number_of}

digit_small : (c : ℕ) → is_ascii_digit c ≡ true → digit_value c < 10
digit_small c is = grind (arith, nat_tests)

digit_of_value : (c : ℕ) → digit_value c < 10 → is_ascii_digit c ≡ true
digit_of_value c lt = grind (arith, nat_tests)

and_left : (a b : Bool) → (a && b) ≡ true → a ≡ true
and_left true b is = refl
and_left false b is = absurd cc

and_right : (a b : Bool) → (a && b) ≡ true → b ≡ true
and_right true b is = is
and_right false b is = absurd cc

all_small : (ds : List ℕ) → all_ascii_digits ds ≡ true → AllDigits 10 ds
all_small [] is = tt
all_small (d ∷ ds) is = (digit_small d (and_left (is_ascii_digit d) (all_ascii_digits ds) is), all_small ds (and_right (is_ascii_digit d) (all_ascii_digits ds) is))

all_digits : (ds : List ℕ) → AllDigits 10 ds → all_ascii_digits ds ≡ true
all_digits [] all = refl
all_digits (d ∷ ds) all = rw (digit_of_value d all.0, all_digits ds all.1) refl

-- a word that doesn't begin with a plus
pub without_plus : (word : List ℕ) → (slice_index word 0 == 43) ≡ false → without_leading_plus word ≡ word
without_plus word none = ap (λ (b : Bool). drop (cond b 1 0) word) none

-- a numeral from the least to the greatest
numeral_some : (least greatest n : ℕ) (word : List ℕ) → IsNumeral 10 word → n ≡ digits_value 10 word → least ≤ n → n ≤ greatest → Some n ≡ number_of least greatest word
numeral_some least greatest n word numeral is low high = grind (arith, nat_tests, all_digits word numeral.1)

pub number_some : (least greatest n : ℕ) (digits word : List ℕ) → digits ≡ word → IsNumeral 10 digits → n ≡ digits_value 10 digits → least ≤ n → n ≤ greatest → Some n ≡ number_of least greatest word
number_some least greatest n digits word same numeral is low high = subst (λ (w : List ℕ). Some n ≡ number_of least greatest w) same (numeral_some least greatest n digits numeral is low high)

-- a word that is not a numeral, or is out of range
numeral_none : (least greatest : ℕ) (word : List ℕ) → greatest < 2 ^ 64 → (IsNumeral 10 word × (digits_value 10 word < 2 ^ 64) → ⊥) → None ≡ number_of least greatest word
numeral_none least greatest word small wrong =
    let number = digits_value 10 word in
    let some = not (length word == 0) in
    let digital = all_ascii_digits word in
    (elim (some && digital && nat_le least number && nat_le number greatest) as (λ b. (some && digital && nat_le least number && nat_le number greatest) ≡ b → None ≡ cond b (Some number) None) [
      | true ↦ λ e.
          let front : (some && digital && nat_le least number) ≡ true = and_left (some && digital && nat_le least number) (nat_le number greatest) e in
          let high : nat_le number greatest ≡ true = and_right (some && digital && nat_le least number) (nat_le number greatest) e in
          let both : (some && digital) ≡ true = and_left (some && digital) (nat_le least number) front in
          let nonempty : some ≡ true = and_left some digital both in
          let at_most : number ≤ greatest = grind (arith, nat_tests) in
          let begun : 0 < length word = grind (arith, nat_tests) in
          absurd (wrong ((begun, all_small word (and_right some digital both)), omega arith))
      | false ↦ λ e. refl
    ]) refl

pub number_none : (least greatest : ℕ) (digits word : List ℕ) → digits ≡ word → greatest < 2 ^ 64 → (IsNumeral 10 digits × (digits_value 10 digits < 2 ^ 64) → ⊥) → None ≡ number_of least greatest word
number_none least greatest digits word same small wrong = subst (λ (w : List ℕ). None ≡ number_of least greatest w) same (numeral_none least greatest digits small wrong)
