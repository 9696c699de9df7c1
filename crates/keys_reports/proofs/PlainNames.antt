-- Escaped names have no control character.
use Rattle.std.proofs.Common.{ℕ, ◌+◌, ◌/◌, ◌%◌, ◌≡◌, ◌<◌, ◌≤◌, ◌==◌, Bool, true, false, cond, nat_lt, List, [], ◌∷◌, ◌++◌, chars, refl, arith}
use Rattle.std.proofs.lemmas.Bool.Decides.{nat_tests}
use Rattle.std.specs.Char.{is_control, digit_char}
use Rattle.std.specs.List.{flat_map}
use Rattle.std.specs.Str.{NonePass, NoCharPasses}
use Rattle.keys_reports.specs.Names.{respelled, escaped_byte, escaped_control, line_char, escaped_name}

none_joined : (p : ℕ → Bool) (xs ys : List ℕ) → NonePass p xs → NonePass p ys → NonePass p (xs ++ ys)
none_joined p [] ys front back = back
none_joined p (x ∷ xs) ys front back = (front.0, none_joined p xs ys front.1 back)

none_spelled : (p : ℕ → Bool) (spelling : ℕ → List ℕ) → ((c : ℕ) → NonePass p (spelling c)) → (cs : List ℕ) → NonePass p (flat_map spelling cs)
none_spelled p spelling each [] = tt
none_spelled p spelling each (c ∷ cs) = none_joined p (spelling c) (flat_map spelling cs) (each c) (none_spelled p spelling each cs)

-- a text of which each character is spelled by characters that fail a test
none_respelled : (p : ℕ → Bool) (spelling : ℕ → List ℕ) → ((c : ℕ) → NonePass p (spelling c)) → (name : List ℕ) → NoCharPasses p (respelled spelling name)
unfolding respelled
none_respelled p spelling each name = (flat_map spelling (chars name), refl, none_spelled p spelling each (chars name))

either : (p : ℕ → Bool) (b : Bool) (xs ys : List ℕ) → (b ≡ true → NonePass p xs) → (b ≡ false → NonePass p ys) → NonePass p (cond b xs ys)
either p true xs ys first second = first refl
either p false xs ys first second = second refl

printed : (c : ℕ) → 32 ≤ c → c < 127 → is_control c ≡ false
printed c low high = grind (arith, nat_tests)

printed_either : (b : Bool) (c d : ℕ) → is_control c ≡ false → is_control d ≡ false → is_control (cond b c d) ≡ false
printed_either true c d first second = first
printed_either false c d first second = second

printed_digit : (n : ℕ) → n < 16 → is_control (digit_char n) ≡ false
printed_digit n small =
    printed_either (nat_lt n 10) (48 + n) (87 + n)
    (printed (48 + n) (omega arith) (omega (arith, small)))
    (printed (87 + n) (omega arith) (omega (arith, small)))

pub small_control : (c : ℕ) → is_control c ≡ true → c < 0x100
small_control c control = grind (arith, nat_tests)

printed_byte : (b : ℕ) → b < 0x100 → NonePass is_control (escaped_byte b)
printed_byte b small = (refl, (refl, (printed_digit (b / 16) (omega (arith, small)), (printed_digit (b % 16) (omega arith), tt))))

printed_control : (c : ℕ) → c < 0x100 → NonePass is_control (escaped_control c)
printed_control c small =
    either is_control (c == 9) _ _ (λ tab. (refl, (refl, tt)))
    (λ no_tab. either is_control (c == 10) _ _ (λ lf. (refl, (refl, tt)))
    (λ no_lf. either is_control (c == 13) _ _ (λ cr. (refl, (refl, tt)))
    (λ no_cr. either is_control (nat_lt c 128) _ _ (λ low. printed_byte c small)
    (λ high. (refl, (refl, (refl, (refl, printed_byte c small))))))))

printed_line_char : (c : ℕ) → NonePass is_control (line_char c)
printed_line_char c =
    either is_control (c == 92) _ _ (λ backslash. (refl, (refl, tt)))
    (λ other. either is_control (is_control c) (escaped_control c) (c ∷ [])
    (λ control. printed_control c (small_control c control)) (λ printed. (printed, tt)))

-- no control character is left
pub escaped_printed : (name : List ℕ) → NoCharPasses is_control (escaped_name name)
escaped_printed = none_respelled is_control line_char printed_line_char
