-- Bytes that are spelled as their count, then the bytes.
use Rattle.std.proofs.Common.{◌≡◌, ℕ, ◌<◌, ◌≤◌, List, [], ◌∷◌, ◌++◌, length, take, Option, Some, None, nat_lt}
use Rattle.std.proofs.Common.{if◌then◌else◌, refl, sym, ap, ◌∙◌, arith, take_all}
use Rattle.std.proofs.lemmas.List.{take-append-le}

-- a text spells bytes: their number, then the bytes
abbrev pub SpellsLetters : List ℕ → List ℕ → Type 0
SpellsLetters text x = text ≡ length x ∷ x

-- letters with others behind them; none if they are more than 255
abbrev pub appended : List ℕ → List ℕ → Option (List ℕ)
appended x y = if nat_lt (length (x ++ y)) 256 then Some (x ++ y) else None

front : (n : ℕ) (a u : List ℕ) → length a ≡ n → take n (a ++ u) ≡ a
front n a u e =
    let enough : n ≤ length a = omega arith in
    let all : length a ≤ n = omega arith in
    take-append-le n a u enough ∙ take_all n a all

head_or : ℕ → List ℕ → ℕ
head_or d [] = d
head_or d (x ∷ xs) = x

tail_of : List ℕ → List ℕ
tail_of [] = []
tail_of (x ∷ xs) = xs

pub one_letters : (a b u v : List ℕ) (x y : List ℕ) → SpellsLetters a x → SpellsLetters b y → a ++ u ≡ b ++ v → (a ≡ b) × (x ≡ y)
unfolding head_or tail_of
one_letters a b u v x y p q same =
    let whole : (length x ∷ x) ++ u ≡ (length y ∷ y) ++ v = ap (λ l. l ++ u) (sym p) ∙ same ∙ ap (λ l. l ++ v) q in
    let counts : length x ≡ length y = ap (head_or 0) whole in
    let letters : x ++ u ≡ y ++ v = ap tail_of whole in
    let e : x ≡ y = sym (front (length y) x u counts) ∙ ap (take (length y)) letters ∙ front (length y) y v refl in
    (p ∙ ap (λ l. length l ∷ l) e ∙ sym q, e)

pub letters_written : (x : List ℕ) → length x < 256 → SpellsLetters (length x ∷ x) x
letters_written x h = refl
