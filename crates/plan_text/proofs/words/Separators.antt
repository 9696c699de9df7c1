-- Cutting at the first byte of a kind, line by line or word by word.
use Rattle.std.proofs.Common.{◌≡◌, ℕ, zero, suc, ◌<◌, ◌≤◌, Bool, true, false, cond, eqb, List, [], ◌∷◌, ◌++◌, length, get_or, refl, arith, Option, None, Some}
use Rattle.std.specs.List.{onto_first}
use Rattle.std.proofs.lemmas.Bool.{ne_eqb}
use Rattle.std.specs.Prelude.{is_some}
use denote.Ref.{Bor}
use Rattle.keys_lines.specs.Lines.{lines_of}
use Rattle.plan_text.specs.Words.{words, more_words}
use Rattle.plan_text.specs.Lines.{said}

abbrev pub Lacks : ℕ → List ℕ → Type 0
Lacks c bs = (k : ℕ) → k < length bs → get_or bs k 0 ≡ c → ⊥

Lacks-rest : (c b : ℕ) (bs : List ℕ) → Lacks c (b ∷ bs) → Lacks c bs
Lacks-rest c b bs h k lt = h (suc k) (omega arith)

first_not : (c b : ℕ) (bs : List ℕ) → Lacks c (b ∷ bs) → eqb b c ≡ false
first_not c b bs h = ne_eqb b c (h 0 (omega arith))

pub words_none : (line : List ℕ) → Lacks 32 line → words line ≡ line ∷ []
words_none [] h = refl
words_none (b ∷ bs) h = rw (first_not 32 b bs h, words_none bs (Lacks-rest 32 b bs h)) refl

pub words_some : (front rest : List ℕ) → Lacks 32 front → words (front ++ 32 ∷ rest) ≡ front ∷ words rest
words_some [] rest h = refl
words_some (b ∷ bs) rest h = rw (first_not 32 b bs h, words_some bs rest (Lacks-rest 32 b bs h)) refl

-- a last line with no LF
pub lines_none : (b : ℕ) (bs : List ℕ) → Lacks 10 (b ∷ bs) → lines_of (b ∷ bs) ≡ (b ∷ bs) ∷ []
lines_none b [] h = rw (first_not 10 b [] h) refl
lines_none b (c ∷ bs) h = rw (first_not 10 b (c ∷ bs) h, lines_none c bs (Lacks-rest 10 b (c ∷ bs) h)) refl

pub lines_last : (text : List ℕ) → 0 < length text → Lacks 10 text → lines_of text ≡ text ∷ []
lines_last [] lt h = absurd (omega arith)
lines_last (b ∷ bs) lt h = lines_none b bs h

pub lines_some : (front rest : List ℕ) → Lacks 10 front → lines_of (front ++ 10 ∷ rest) ≡ front ∷ lines_of rest
lines_some [] rest h = refl
lines_some (b ∷ bs) rest h = rw (first_not 10 b bs h, lines_some bs rest (Lacks-rest 10 b bs h)) refl

length-onto_first : (b : ℕ) (ls : List (List ℕ)) (n : ℕ) → length ls ≤ n → length (onto_first b ls) ≤ suc n
length-onto_first b [] n h = omega arith
length-onto_first b (l ∷ ls) n h = omega arith

length_step : (t : Bool) (b : ℕ) (ls : List (List ℕ)) (n : ℕ) → length ls ≤ n → length (cond t ([] ∷ ls) (onto_first b ls)) ≤ suc n
length_step true b ls n h = omega arith
length_step false b ls n h = length-onto_first b ls n h

-- each line takes at least one byte of the text
pub length-lines_of-le : (text : List ℕ) → length (lines_of text) ≤ length text
length-lines_of-le [] = omega arith
length-lines_of-le (b ∷ bs) = length_step (eqb b 10) b (lines_of bs) (length bs) (length-lines_of-le bs)

not_nil_step : (t : Bool) (b : ℕ) (ls : List (List ℕ)) → cond t ([] ∷ ls) (onto_first b ls) ≡ [] → ⊥
not_nil_step true b ls e = cc
not_nil_step false b [] e = cc
not_nil_step false b (l ∷ ls) e = cc

pub words_not_nil : (line : List ℕ) → words line ≡ [] → ⊥
words_not_nil [] e = cc
words_not_nil (b ∷ bs) e = not_nil_step (eqb b 32) b (words bs) e

-- more than four words
pub said_more : (a b d e : List ℕ) (ws : List (List ℕ)) → (ws ≡ [] → ⊥) → None ≡ said (a ∷ b ∷ d ∷ e ∷ ws)
said_more a b d e [] h = absurd (h refl)
said_more a b d e (w ∷ ws) h = refl

pub some_more : (rest : Option (Bor (List ℕ))) → true ≡ is_some rest → more_words rest ≡ [] → ⊥
some_more None e = absurd cc
some_more (Some rest) e = words_not_nil rest.now

eqb_zero : (n : ℕ) → false ≡ eqb n 0 → 0 < n
eqb_zero zero e = absurd cc
eqb_zero (suc n) e = omega arith

pub not_empty : (text : List ℕ) → false ≡ eqb (length text) 0 → 0 < length text
not_empty text e = eqb_zero (length text) e
