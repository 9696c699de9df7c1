-- Bytes as hexadecimal digits, and back.
use Rattle.std.proofs.Common.{◌≡◌, ℕ, zero, suc, List, [], ◌∷◌, ◌++◌, Option, Some, None, Bool, true, false, refl, ap, ◌∙◌, map, length, ◌&&◌, ◌+◌, ◌*◌, ◌%◌, ◌<◌, is_some, arith}
use Rattle.std.proofs.lemmas.Bool.Decides.{nat_tests}
use Rattle.std.specs.Simd.{first_chunks}
use Rattle.keys_sketches.specs.Hex.{hex_of, before, bytes_of_hex, pair_of, digit_of, are_digits, digit_value, pair_value}

pub hex_of-append : (xs ys : List ℕ) → hex_of (xs ++ ys) ≡ hex_of xs ++ hex_of ys
hex_of-append [] ys = refl
hex_of-append (x ∷ xs) ys = ap (λ ds. hex_of (x ∷ []) ++ ds) (hex_of-append xs ys)

-- the expression for all cases is that of each
digit_counts : (letter digit : ℕ) → digit_of letter ≡ Some digit → digit ≡ digit_value letter
digit_counts letter digit is = grind (arith, nat_tests)

digit_small : (letter digit : ℕ) → digit_of letter ≡ Some digit → digit < 16
digit_small letter digit is = grind (arith, nat_tests)

-- one pair more
pair_spells : (high low : ℕ) (rest : Option (List ℕ)) (bytes : List ℕ) (first second : Option ℕ) → digit_of high ≡ first → digit_of low ≡ second → (is_some first && is_some second) ≡ true → rest ≡ Some bytes →
    before (pair_of first second) rest ≡ Some (pair_value (high ∷ low ∷ []) ∷ bytes)
pair_spells high low rest bytes (Some a) (Some b) first second digits is =
    let value : 16 * a + b ≡ pair_value (high ∷ low ∷ []) = omega (arith, digit_counts high a first, digit_small high a first, digit_counts low b second, digit_small low b second) in
    ap (before (Some (16 * a + b))) is ∙ ap (λ byte. Some (byte ∷ bytes)) value
pair_spells high low rest bytes (Some a) None first second digits is = search
pair_spells high low rest bytes None second first is_second digits is = search

nothing_before : (byte : Option ℕ) → before byte None ≡ None
nothing_before (Some byte) = refl
nothing_before None = refl

two_digits : (first second others : Bool) → (first && (second && others)) ≡ true → ((first && second) ≡ true) × (others ≡ true)
two_digits first second others all = grind (arith, nat_tests)

-- the bytes of digits are those of their pairs
pub pairs_spell : (count : ℕ) (text : List ℕ) → count * 2 ≡ length text → are_digits text ≡ true → bytes_of_hex text ≡ Some (map pair_value (first_chunks 2 count text))
pairs_spell zero [] whole digits = refl
pairs_spell zero (high ∷ text) whole digits = absurd (omega (arith, whole))
pairs_spell (suc count) [] whole digits = absurd (omega (arith, whole))
pairs_spell (suc count) (high ∷ []) whole digits = absurd (omega (arith, whole))
pairs_spell (suc count) (high ∷ low ∷ text) whole digits =
    let parts = two_digits (is_some (digit_of high)) (is_some (digit_of low)) (are_digits text) digits in
    pair_spells high low (bytes_of_hex text) (map pair_value (first_chunks 2 count text)) (digit_of high) (digit_of low) refl refl parts.0 (pairs_spell count text (omega (arith, whole)) parts.1)

-- an odd number of letters spells nothing
pub odd_spells_nothing : (text : List ℕ) → length text % 2 ≡ 1 → bytes_of_hex text ≡ None
odd_spells_nothing [] odd = absurd (omega (arith, odd))
odd_spells_nothing (letter ∷ []) odd = refl
odd_spells_nothing (high ∷ low ∷ text) odd = ap (before (pair_of (digit_of high) (digit_of low))) (odd_spells_nothing text (omega (arith, odd))) ∙ nothing_before (pair_of (digit_of high) (digit_of low))

other_pair : (first second : Option ℕ) (rest : Option (List ℕ)) (digits : Bool) → (is_some first && (is_some second && digits)) ≡ false → (digits ≡ false → rest ≡ None) → before (pair_of first second) rest ≡ None
other_pair (Some a) (Some b) rest digits other none = ap (before (Some (16 * a + b))) (none other)
other_pair (Some a) None rest digits other none = refl
other_pair None second rest digits other none = refl

-- and so does a text in which some letter is no digit
pub other_spells_nothing : (text : List ℕ) → are_digits text ≡ false → bytes_of_hex text ≡ None
other_spells_nothing [] other = search
other_spells_nothing (letter ∷ []) other = refl
other_spells_nothing (high ∷ low ∷ text) other = other_pair (digit_of high) (digit_of low) (bytes_of_hex text) (are_digits text) other (other_spells_nothing text)
