-- Numbers that are read digit by digit.
use Rattle.std.proofs.Common.{◌≡◌, ℕ, zero, suc, ◌+◌, ◌-◌, ◌*◌, ◌^◌, ◌<◌, ◌≤◌, Bool, true, false, cond, List, [], ◌∷◌, ◌++◌, length, take, get_or, Some, None, refl, sym, ap, subst, ◌∙◌, append-nil, arith}
use Rattle.std.specs.Prelude.{◌&&◌, ◌==◌, not, nat_lt}
use Rattle.std.specs.Char.{is_ascii_digit, digit_value}
use Rattle.std.specs.Str.{all_ascii_digits}
use Rattle.std.specs.Str.Parse.{digits_value, digits_value_after}
use Rattle.std.proofs.lemmas.Bool.{and_parts}
use Rattle.std.proofs.lemmas.Bool.Decides.{nat_tests}
use Rattle.std.proofs.lemmas.List.{take_more}
use Rattle.std.proofs.lemmas.Option.{cond_some}
use Rattle.keys_sums.specs.Amounts.{number_in}

-- ---- digits, one behind another

-- the value of a digit
digit_is : (b : ℕ) → is_ascii_digit b ≡ true → digit_value b ≡ b - 48
digit_is b e = grind (arith, nat_tests)

after_append : (n : ℕ) (xs ys : List ℕ) → digits_value_after 10 n (xs ++ ys) ≡ digits_value_after 10 (digits_value_after 10 n xs) ys
after_append n [] ys = refl
after_append n (x ∷ xs) ys = after_append (n * 10 + digit_value x) xs ys

at_least : (n : ℕ) (xs : List ℕ) → n ≤ digits_value_after 10 n xs
at_least n [] = omega arith
at_least n (x ∷ xs) = omega (arith, at_least (n * 10 + digit_value x) xs)

all_append : (xs ys : List ℕ) → all_ascii_digits (xs ++ ys) ≡ (all_ascii_digits xs && all_ascii_digits ys)
all_append [] ys = refl
all_append (x ∷ xs) ys =
    (elim (is_ascii_digit x) as (λ b. (b && all_ascii_digits (xs ++ ys)) ≡ ((b && all_ascii_digits xs) && all_ascii_digits ys)) [ true ↦ all_append xs ys | false ↦ refl ])

-- ---- what bytes spell

-- a number is spelled exactly if these tests hold
abbrev tests : List ℕ → Bool
tests bytes = not (length bytes == 0) && all_ascii_digits bytes && nat_lt (digits_value 10 bytes) (2 ^ 64)

-- what follows from a number that is spelled
record Spelled (bytes : List ℕ) (n : ℕ) : Type 0 where
  digits : all_ascii_digits bytes ≡ true
  value : digits_value 10 bytes ≡ n

spelled : (bytes : List ℕ) (n : ℕ) → number_in bytes ≡ Some n → Spelled bytes n
spelled bytes n is =
    let parts = cond_some (tests bytes) (digits_value 10 bytes) n is in
    let first = and_parts (not (length bytes == 0) && all_ascii_digits bytes) (nat_lt (digits_value 10 bytes) (2 ^ 64)) parts.0 in
    record { digits = (and_parts (not (length bytes == 0)) (all_ascii_digits bytes) first.0).1; value = parts.1 }

nothing_false : (bytes : List ℕ) → tests bytes ≡ false → number_in bytes ≡ None
nothing_false bytes fails = ap (λ (b : Bool). cond b (Some (digits_value 10 bytes)) None) fails

some_true : (bytes : List ℕ) (n : ℕ) → (length bytes == 0) ≡ false → all_ascii_digits bytes ≡ true → digits_value 10 bytes ≡ n → n < 2 ^ 64 → number_in bytes ≡ Some n
some_true bytes n some digits value small =
    let fits : nat_lt (digits_value 10 bytes) (2 ^ 64) ≡ true = grind (arith, nat_tests) in
    let all : tests bytes ≡ true = rw (some, digits, fits) refl in
    ap (λ (b : Bool). cond b (Some (digits_value 10 bytes)) None) all ∙ ap Some value

not_empty : (bytes : List ℕ) (c : ℕ) (more : List ℕ) → (length (bytes ++ c ∷ more) == 0) ≡ false
not_empty [] c more = grind (arith, nat_tests)
not_empty (b ∷ bytes) c more = grind (arith, nat_tests)

-- the first digit
pub first_digit : (c : ℕ) → is_ascii_digit c ≡ true → number_in (c ∷ []) ≡ Some (c - 48)
first_digit c digit =
    let value : digits_value 10 (c ∷ []) ≡ c - 48 = omega (arith, digit_is c digit) in
    let small : c - 48 < 2 ^ 64 = grind (arith, nat_tests) in
    some_true (c ∷ []) (c - 48) (not_empty [] c []) (rw (digit) refl) value small

next_digits : (bytes : List ℕ) (n c : ℕ) → Spelled bytes n → is_ascii_digit c ≡ true → (all_ascii_digits (bytes ++ c ∷ []) ≡ true) × (digits_value 10 (bytes ++ c ∷ []) ≡ n * 10 + (c - 48))
next_digits bytes n c is digit = (
  all_append bytes (c ∷ []) ∙ rw (is.digits, digit) refl,
  after_append 0 bytes (c ∷ []) ∙ ap (λ (m : ℕ). m * 10 + digit_value c) is.value ∙ ap (λ (d : ℕ). n * 10 + d) (digit_is c digit),
)

-- one digit more
pub next_digit : (bytes : List ℕ) (n c : ℕ) → number_in bytes ≡ Some n → is_ascii_digit c ≡ true → n * 10 + (c - 48) < 2 ^ 64 → number_in (bytes ++ c ∷ []) ≡ Some (n * 10 + (c - 48))
next_digit bytes n c is digit small =
    let next = next_digits bytes n c (spelled bytes n is) digit in
    some_true (bytes ++ c ∷ []) (n * 10 + (c - 48)) (not_empty bytes c []) next.0 next.1 small

-- .. with which the number is too large, whatever follows
pub past_digit : (bytes : List ℕ) (n c : ℕ) → number_in bytes ≡ Some n → is_ascii_digit c ≡ true → 2 ^ 64 ≤ n * 10 + (c - 48) → (more : List ℕ) → number_in ((bytes ++ c ∷ []) ++ more) ≡ None
past_digit bytes n c is digit large more =
    let next = next_digits bytes n c (spelled bytes n is) digit in
    let above : 2 ^ 64 ≤ digits_value 10 ((bytes ++ c ∷ []) ++ more) = omega (arith, large, next.1, after_append 0 (bytes ++ c ∷ []) more, at_least (digits_value 10 (bytes ++ c ∷ [])) more) in
    let fails : nat_lt (digits_value 10 ((bytes ++ c ∷ []) ++ more)) (2 ^ 64) ≡ false = grind (arith, nat_tests) in
    nothing_false ((bytes ++ c ∷ []) ++ more) (rw (fails) (grind (arith, nat_tests)))

-- another byte, whatever follows
pub no_digit : (bytes : List ℕ) (c : ℕ) → is_ascii_digit c ≡ false → (more : List ℕ) → number_in ((bytes ++ c ∷ []) ++ more) ≡ None
no_digit bytes c other more =
    let all : all_ascii_digits ((bytes ++ c ∷ []) ++ more) ≡ ((all_ascii_digits bytes && (is_ascii_digit c && true)) && all_ascii_digits more) =
    all_append (bytes ++ c ∷ []) more ∙ ap (λ (b : Bool). b && all_ascii_digits more) (all_append bytes (c ∷ [])) in
    let fails : all_ascii_digits ((bytes ++ c ∷ []) ++ more) ≡ false = all ∙ rw (other) (grind (arith, nat_tests)) in
    nothing_false ((bytes ++ c ∷ []) ++ more) (rw (fails) (grind (arith, nat_tests)))

pub none_now : (bytes : List ℕ) → ((more : List ℕ) → number_in (bytes ++ more) ≡ None) → number_in bytes ≡ None
none_now bytes wrong = ap number_in (sym (append-nil bytes)) ∙ wrong []

-- ---- numbers in a text, byte by byte

take_whole : (n : ℕ) (xs : List ℕ) → length xs ≤ n → take n xs ≡ xs
take_whole zero [] h = refl
take_whole zero (x ∷ xs) h = absurd (omega (arith, h))
take_whole (suc n) [] h = refl
take_whole (suc n) (x ∷ xs) h = ap (λ ys. x ∷ ys) (take_whole n xs (omega (arith, h)))

module _ (text : List ℕ) (first : ℕ) (others : List ℕ) (parts : text ≡ first ∷ others) where
  text_length : length text ≡ suc (length others)
  text_length = ap length parts

  -- its first byte is a digit
  pub text_begins : is_ascii_digit first ≡ true → number_in (take 1 text) ≡ Some (first - 48)
  text_begins digit = ap (λ (xs : List ℕ). number_in (take 1 xs)) parts ∙ first_digit first digit

  -- one byte more is a digit
  pub text_continues : (i n : ℕ) → i < length others → number_in (take (i + 1) text) ≡ Some n → is_ascii_digit (get_or others i 0) ≡ true → n * 10 + (get_or others i 0 - 48) < 2 ^ 64 →
      number_in (take (i + 1 + 1) text) ≡ Some (n * 10 + (get_or others i 0 - 48))
  text_continues i n lt is digit small =
      let next : i + 1 ≡ suc i = omega arith in
      let at : get_or text (i + 1) 0 ≡ get_or others i 0 = ap (λ (xs : List ℕ). get_or xs (i + 1) 0) parts ∙ ap (λ (k : ℕ). get_or (first ∷ others) k 0) next in
      let inside : i + 1 < length text = omega (arith, lt, text_length) in
      let more = next_digit (take (i + 1) text) n (get_or text (i + 1) 0) is (ap is_ascii_digit at ∙ digit) (subst (λ (b : ℕ). n * 10 + (b - 48) < 2 ^ 64) (sym at) small) in
      ap number_in (take_more text (i + 1) 0 inside) ∙ more ∙ ap (λ (b : ℕ). Some (n * 10 + (b - 48))) at

  -- all bytes are read
  pub text_ends : (i n : ℕ) → length others ≤ i → number_in (take (i + 1) text) ≡ Some n → number_in text ≡ Some n
  text_ends i n all is = ap number_in (sym (take_whole (i + 1) text (omega (arith, all, text_length)))) ∙ is
