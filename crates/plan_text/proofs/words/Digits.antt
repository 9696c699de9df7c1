-- Reading digits from the left.
use Rattle.std.proofs.Common.{◌≡◌, ℕ, zero, suc, ap, ◌++◌, ◌+◌, ◌-◌, ◌*◌, ◌^◌, ◌<◌, ◌≤◌, Bool, true, false, cond, ltb, leb, List, [], ◌∷◌, length, get_or, drop, Option, Some, None, refl, sym, ◌∙◌, arith, drop-cons}
use Rattle.std.specs.Prelude.{◌&&◌}
use Rattle.std.specs.Char.{is_ascii_digit, digit_value}
use Rattle.std.specs.Str.{all_ascii_digits}
use Rattle.std.specs.Str.Parse.{digits_value, digits_value_after}
use Rattle.std.proofs.lemmas.Bool.{lt-ltb, le-ltb, ltb-false, ltb-true, le-leb}
use Rattle.std.proofs.lemmas.Bool.Decides.{nat_tests}
use Rattle.std.proofs.lemmas.Nat.{pow-add}
use Rattle.std.proofs.Math.Nat.{pow-le-pow_right}
use Rattle.plan_text.proofs.words.Separators.{Lacks}
use Rattle.plan_text.specs.Words.{number_of_word}

abbrev pub digits_from : ℕ → List ℕ → Option ℕ
digits_from n [] = Some n
digits_from n (d ∷ ds) = cond (is_ascii_digit d && ltb (n * 10 + digit_value d) (2 ^ 64)) (digits_from (n * 10 + digit_value d) ds) None

after_ge : (n : ℕ) (ds : List ℕ) → n ≤ digits_value_after 10 n ds
after_ge n [] = omega arith
after_ge n (d ∷ ds) = omega (arith, after_ge (n * 10 + digit_value d) ds)

abbrev chosen : Bool → ℕ → Option ℕ
chosen all n = cond (all && ltb n (2 ^ 64)) (Some n) None

chosen_big : (all : Bool) (n : ℕ) → 2 ^ 64 ≤ n → None ≡ chosen all n
chosen_big true n le = rw (le-ltb n (2 ^ 64) le) refl
chosen_big false n le = refl

digits_step : (one two all : Bool) (m last : ℕ) (ds : List ℕ) → (two ≡ true → digits_from m ds ≡ chosen all last) → (two ≡ false → None ≡ chosen all last) → cond (one && two) (digits_from m ds) None ≡ chosen (one && all) last
digits_step true true all m last ds small large = small refl
digits_step true false all m last ds small large = large refl
digits_step false two all m last ds small large = refl

pub digits_from_is : (n : ℕ) (ds : List ℕ) → n < 2 ^ 64 → digits_from n ds ≡ chosen (all_ascii_digits ds) (digits_value_after 10 n ds)
digits_from_is n [] lt = rw (lt-ltb n (2 ^ 64) lt) refl
digits_from_is n (d ∷ ds) lt =
    let m = n * 10 + digit_value d in
    digits_step (is_ascii_digit d) (ltb m (2 ^ 64)) (all_ascii_digits ds) m (digits_value_after 10 m ds) ds
    (λ is. digits_from_is m ds (ltb-true m (2 ^ 64) is))
    (λ is. let big : 2 ^ 64 ≤ m = ltb-false m (2 ^ 64) is in chosen_big (all_ascii_digits ds) (digits_value_after 10 m ds) (omega (arith, after_ge m ds)))

and_both : (all one two small : Bool) (n : ℕ) → one ≡ true → two ≡ true → cond (all && one && two && small) (Some n) None ≡ cond (all && small) (Some n) None
and_both false one two small n e f = refl
and_both true false two small n e f = absurd cc
and_both true true false small n e f = absurd cc
and_both true true true small n e f = refl

pub number_is : (w : List ℕ) → 0 < length w → length w ≤ 20 → digits_from 0 w ≡ number_of_word w
number_is w low high = digits_from_is 0 w (omega arith) ∙ sym (and_both (all_ascii_digits w) (ltb 0 (length w)) (leb (length w) 20) (ltb (digits_value 10 w) (2 ^ 64)) (digits_value 10 w) (lt-ltb 0 (length w) low) (le-leb (length w) 20 high))

-- a digit that ends the reading
pub stops : (n i : ℕ) (w : List ℕ) (total : Option ℕ) → i < length w → (is_ascii_digit (get_or w i 0) && ltb (n * 10 + digit_value (get_or w i 0)) (2 ^ 64)) ≡ false → digits_from n (drop i w) ≡ total → None ≡ total
stops n i w total lt is so_far = let one : digits_from n (drop i w) ≡ None = rw (drop-cons w i 0, is) refl in sym one ∙ so_far

pub no_digit : (a b : Bool) → a ≡ false → (a && b) ≡ false
no_digit a b e = rw e refl

pub too_big : (a : Bool) (m : ℕ) → 2 ^ 64 ≤ m → (a && ltb m (2 ^ 64)) ≡ false
too_big false m le = refl
too_big true m le = le-ltb m (2 ^ 64) le

-- the value of a digit
pub digit_is : (b : ℕ) → is_ascii_digit b ≡ true → digit_value b ≡ b - 48
digit_is b e = grind (arith, nat_tests)

push_step : (t : Bool) (v : ℕ) (a b c : Option ℕ) → cond t a None ≡ Some v → (a ≡ Some v → b ≡ c) → cond t b None ≡ c
push_step true v a b c e h = h e
push_step false v a b c e h = absurd cc

-- one more digit after a word
pub digits_push : (n v d : ℕ) (w : List ℕ) → digits_from n w ≡ Some v → is_ascii_digit d ≡ true → v * 10 + digit_value d < 2 ^ 64 → digits_from n (w ++ d ∷ []) ≡ Some (v * 10 + digit_value d)
digits_push n v d [] e is fits =
    let same : n ≡ v = cc in
    let small : ltb (v * 10 + digit_value d) (2 ^ 64) ≡ true = lt-ltb (v * 10 + digit_value d) (2 ^ 64) fits in
    rw (same, is, small) refl
digits_push n v d (x ∷ w) e is fits =
    push_step (is_ascii_digit x && ltb (n * 10 + digit_value x) (2 ^ 64)) v (digits_from (n * 10 + digit_value x) w) (digits_from (n * 10 + digit_value x) (w ++ d ∷ [])) (Some (v * 10 + digit_value d)) e
    (λ f. digits_push (n * 10 + digit_value x) v d w f is fits)

all_step : (one two all : Bool) (v : ℕ) (a : Option ℕ) → cond (one && two) a None ≡ Some v → (a ≡ Some v → all ≡ true) → (one && all) ≡ true
all_step true true all v a e h = h e
all_step true false all v a e h = absurd cc
all_step false two all v a e h = absurd cc

pub all_digits : (n v : ℕ) (w : List ℕ) → digits_from n w ≡ Some v → all_ascii_digits w ≡ true
all_digits n v [] e = refl
all_digits n v (x ∷ w) e =
    all_step (is_ascii_digit x) (ltb (n * 10 + digit_value x) (2 ^ 64)) (all_ascii_digits w) v (digits_from (n * 10 + digit_value x) w) e
    (λ f. all_digits (n * 10 + digit_value x) v w f)

pub digit_small : (b : ℕ) → is_ascii_digit b ≡ true → digit_value b < 10
digit_small b e = grind (arith, nat_tests)

pub more_digits : (v d i : ℕ) → v < 10 ^ i → d < 10 → v * 10 + d < 10 ^ (i + 1)
more_digits v d i lt small = rw pow-add (omega arith)

pub below_19 : (v i : ℕ) → v < 10 ^ i → i < 19 → v < 10 ^ 18
below_19 v i lt limited = let some : 0 < 10 = omega arith in let most : i ≤ 18 = omega arith in let le : 10 ^ i ≤ 10 ^ 18 = pow-le-pow_right some most in omega arith

first_digit : (b c : ℕ) → is_ascii_digit c ≡ false → is_ascii_digit b ≡ true → b ≡ c → ⊥
first_digit b c other digit e = let both : true ≡ false = sym digit ∙ ap is_ascii_digit e ∙ other in absurd cc

both : (a b : Bool) → (a && b) ≡ true → (a ≡ true) × (b ≡ true)
both true b e = (refl, e)
both false b e = absurd cc

-- a word of digits has no other byte
pub digits_lack : (c : ℕ) (w : List ℕ) → is_ascii_digit c ≡ false → all_ascii_digits w ≡ true → Lacks c w
digits_lack c [] other all k lt = absurd (omega arith)
digits_lack c (b ∷ w) other all zero lt = first_digit b c other (both (is_ascii_digit b) (all_ascii_digits w) all).0
digits_lack c (b ∷ w) other all (suc k) lt = digits_lack c w other (both (is_ascii_digit b) (all_ascii_digits w) all).1 k (omega arith)
