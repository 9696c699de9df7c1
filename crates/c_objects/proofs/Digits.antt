-- The digits of numbers in decimal: how many they are, and the last of them.
use Rattle.std.proofs.Common.{◌≡◌, ◌+◌, ◌-◌, ◌/◌, ◌%◌, ◌^◌, ◌<◌, ◌≤◌, ◌++◌, ◌∷◌, [], List, ℕ, zero, suc, length, drop, decimal, slice_set, refl, sym, ap, subst, ◌∙◌, arith}
use Rattle.std.proofs.lemmas.List.{append_assoc, append-nil, drop_all, drop-set, length-append, length-drop}
use Rattle.std.proofs.lemmas.Fmt.{decimal_digit, decimal_step_wide, decimal_by_steps_wide, length-decimal-le_wide}
use Rattle.c_objects.specs.Numerals.{last_digits, after_point}

-- a number of 128 bits has at most 39 digits
pub length-decimal-le_128 : (n : ℕ) → n < 2 ^ 128 → length (decimal n) ≤ 39
length-decimal-le_128 n small = length-decimal-le_wide 39 n (omega arith) (omega (arith, small)) (omega (arith, small))

-- a number has at least one digit
pub decimal_not_empty : (n : ℕ) → n < 2 ^ 128 → 1 ≤ length (decimal n)
decimal_not_empty n small =
    decimal_by_steps_wide (λ m ds. 1 ≤ length ds) (λ m l. omega arith) (λ m ds l h. omega (arith, length-append ds ((48 + m % 10) ∷ []))) n (omega (arith, small))

-- one digit more than the number without its last digit
pub length-decimal-step : (n : ℕ) → 10 ≤ n → n < 2 ^ 128 → length (decimal n) ≡ length (decimal (n / 10)) + 1
length-decimal-step n long small = ap length (decimal_step_wide n long (omega (arith, small))) ∙ length-append (decimal (n / 10)) ((48 + n % 10) ∷ [])

pub length-decimal-one : (n : ℕ) → n < 10 → length (decimal n) ≡ 1
length-decimal-one n short = ap length (decimal_digit n short)

-- what is written in front of the digits
pub before_place : (text : List ℕ) (end digit : ℕ) → 1 ≤ end → end ≤ length text → drop (end - 1) (slice_set text (end - 1) digit) ≡ digit ∷ drop end text
before_place text end digit some within =
    let next : end - 1 + 1 ≡ end = omega (arith, some) in
    drop-set text (end - 1) digit (omega (arith, some, within)) ∙ ap (λ i. digit ∷ drop i text) next

-- `places` digits are that many
pub length-last_digits : (places n : ℕ) → length (last_digits places n) ≡ places
unfolding last_digits
length-last_digits zero n = refl
length-last_digits (suc places) n = length-append (last_digits places (n / 10)) ((48 + n % 10) ∷ []) ∙ omega (arith, length-last_digits places (n / 10))

pub last_digits_none : (places n end : ℕ) (text : List ℕ) → places ≡ 0 → drop (end - places) text ≡ last_digits places n ++ drop end text
unfolding last_digits
last_digits_none zero n end text none = let same : end - 0 ≡ end = omega arith in ap (λ i. drop i text) same
last_digits_none (suc places) n end text none = absurd (omega (arith, none))

-- the last digit is behind the digits before it
last_digit_behind : (places n end : ℕ) (text written : List ℕ) → suc places ≤ end
    → drop (end - 1 - places) written ≡ last_digits places (n / 10) ++ ((48 + n % 10) ∷ drop end text)
    → drop (end - suc places) written ≡ last_digits (suc places) n ++ drop end text
unfolding last_digits
last_digit_behind places n end text written fits before =
    let same : end - suc places ≡ end - 1 - places = omega (arith, fits) in
    ap (λ i. drop i written) same ∙ before ∙ sym (append_assoc (last_digits places (n / 10)) ((48 + n % 10) ∷ []) (drop end text))

pub last_digits_step : (places n end : ℕ) (text written : List ℕ) → 1 ≤ places → places ≤ end
    → drop (end - 1 - (places - 1)) written ≡ last_digits (places - 1) (n / 10) ++ ((48 + n % 10) ∷ drop end text)
    → drop (end - places) written ≡ last_digits places n ++ drop end text
last_digits_step zero n end text written some fits before = absurd (omega (arith, some))
last_digits_step (suc places) n end text written some fits before =
    let fewer : suc places - 1 ≡ places = omega arith in
    last_digit_behind places n end text written fits (subst (λ k. drop (end - 1 - k) written ≡ last_digits k (n / 10) ++ ((48 + n % 10) ∷ drop end text)) fewer before)

-- a point and the decimals are one byte more than the decimals, or nothing
pub length-after_point : (decimals places : ℕ) → 0 < places → length (after_point decimals places) ≡ places + 1
length-after_point decimals zero some = absurd (omega (arith, some))
length-after_point decimals (suc places) some = omega (arith, length-last_digits (suc places) decimals)

-- no decimals: nothing is written
pub point_none : (decimals places : ℕ) (text : List ℕ) → places ≡ 0 → length text ≡ 64 → drop 64 text ≡ after_point decimals places
point_none decimals zero text none size = drop_all 64 text (omega (arith, size))
point_none decimals (suc places) text none size = absurd (omega (arith, none))

-- the point in front of the decimals, which are at the end of the text
pub point_before : (decimals places : ℕ) (text before : List ℕ) → 0 < places → places ≤ 19 → length before ≡ 64
    → drop (64 - places) text ≡ last_digits places decimals ++ drop 64 before
    → drop (64 - places - 1) (slice_set text (64 - places - 1) 46) ≡ after_point decimals places
point_before decimals zero text before some limited size written = absurd (omega (arith, some))
point_before decimals (suc places) text before some limited size written =
    let none : drop 64 before ≡ [] = drop_all 64 before (omega (arith, size)) in
    let digits = written ∙ ap (λ ds. last_digits (suc places) decimals ++ ds) none ∙ append-nil (last_digits (suc places) decimals) in
    let room : 64 - suc places ≤ length text =
    omega (arith, limited, sym (length-drop (64 - suc places) text) ∙ ap length digits ∙ length-last_digits (suc places) decimals) in
    before_place text (64 - suc places) 46 (omega (arith, limited)) room ∙ ap (λ ds. 46 ∷ ds) digits
