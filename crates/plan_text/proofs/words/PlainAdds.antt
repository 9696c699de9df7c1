-- Lines that say an update, taken apart by their bytes.
use Rattle.std.proofs.Common.{◌≡◌, ℕ, zero, suc, ◌-◌, ◌≤◌, true, List, [], ◌∷◌, ◌++◌, length, get_or, take, drop, take_all, append_assoc, Some, None, refl, sym, ap, ◌∙◌, arith}
use Rattle.std.specs.Prelude.{map}
use Rattle.std.specs.Str.{all_ascii_digits}
use Rattle.plan_text.proofs.words.Separators.{Lacks, lines_some, words_some, words_none}
use Rattle.plan_text.proofs.words.Digits.{digits_lack}
use Rattle.keys_lines.specs.Lines.{lines_of}
use Rattle.plan_text.specs.Words.{words, number_of_word}
use Rattle.plan_text.specs.Lines.{said}
use Rattle.plan_text.specs.Reading.{says}
use Rattle.plan_text.specs.declared.line.Line.TheVariants as line
use Rattle.plan_text.specs.declared.line.StepLine.TheVariants as step

-- the first byte and the bytes after it
pub first_byte : (xs : List ℕ) (b : ℕ) → 1 ≤ length xs → get_or xs 0 0 ≡ b → xs ≡ b ∷ take (length xs - 1) (drop 1 xs)
first_byte [] b some e = absurd (omega arith)
first_byte (x ∷ xs) b some e = λ i. e i ∷ sym (take_all (length (x ∷ xs) - 1) xs (omega arith)) i

-- `add ` and the bytes after it
pub first_four : (xs : List ℕ) → 4 ≤ length xs → get_or xs 0 0 ≡ 97 → get_or xs 1 0 ≡ 100 → get_or xs 2 0 ≡ 100 → get_or xs 3 0 ≡ 32 → xs ≡ 97 ∷ 100 ∷ 100 ∷ 32 ∷ take (length xs - 4) (drop 4 xs)
first_four [] some e0 e1 e2 e3 = absurd (omega arith)
first_four (a ∷ []) some e0 e1 e2 e3 = absurd (omega arith)
first_four (a ∷ b ∷ []) some e0 e1 e2 e3 = absurd (omega arith)
first_four (a ∷ b ∷ c ∷ []) some e0 e1 e2 e3 = absurd (omega arith)
first_four (a ∷ b ∷ c ∷ d ∷ xs) some e0 e1 e2 e3 = λ i. e0 i ∷ e1 i ∷ e2 i ∷ e3 i ∷ sym (take_all (length (a ∷ b ∷ c ∷ d ∷ xs) - 4) xs (omega arith)) i

Lacks_one : (c b : ℕ) (bs : List ℕ) → (b ≡ c → ⊥) → Lacks c bs → Lacks c (b ∷ bs)
Lacks_one c b bs differ h zero lt = differ
Lacks_one c b bs differ h (suc k) lt = h k (omega arith)

Lacks_both : (c : ℕ) (xs ys : List ℕ) → Lacks c xs → Lacks c ys → Lacks c (xs ++ ys)
Lacks_both c [] ys h g = g
Lacks_both c (x ∷ xs) ys h g = Lacks_one c x (xs ++ ys) (h 0 (omega arith)) (Lacks_both c xs ys (λ k lt. h (suc k) (omega arith)) g)

Lacks_none : (c : ℕ) → Lacks c []
Lacks_none c k lt = absurd (omega arith)

-- `add ` before bytes without LF
added_lacks : (bs : List ℕ) → Lacks 10 bs → Lacks 10 (97 ∷ 100 ∷ 100 ∷ 32 ∷ bs)
added_lacks bs h = Lacks_both 10 (97 ∷ 100 ∷ 100 ∷ 32 ∷ []) bs (Lacks_one 10 97 (100 ∷ 100 ∷ 32 ∷ []) (λ e. absurd (omega arith)) (Lacks_one 10 100 (100 ∷ 32 ∷ []) (λ e. absurd (omega arith)) (Lacks_one 10 100 (32 ∷ []) (λ e. absurd (omega arith)) (Lacks_one 10 32 [] (λ e. absurd (omega arith)) (Lacks_none 10))))) h

add_lacks : Lacks 32 (97 ∷ 100 ∷ 100 ∷ [])
add_lacks = Lacks_one 32 97 (100 ∷ 100 ∷ []) (λ e. absurd (omega arith)) (Lacks_one 32 100 (100 ∷ []) (λ e. absurd (omega arith)) (Lacks_one 32 100 [] (λ e. absurd (omega arith)) (Lacks_none 32)))

pub says_add : (text word rest : List ℕ) (hash : ℕ) → text ≡ 97 ∷ 100 ∷ 100 ∷ 32 ∷ (word ++ 10 ∷ rest) → all_ascii_digits word ≡ true → number_of_word word ≡ Some hash → says text ≡ Some (line.Step (step.Add hash None)) ∷ says rest
says_add text word rest hash e digits spells =
    let front = 97 ∷ 100 ∷ 100 ∷ 32 ∷ word in
    let lines : lines_of text ≡ front ∷ lines_of rest = ap lines_of e ∙ lines_some front rest (added_lacks word (digits_lack 10 word refl digits)) in
    let split : words front ≡ (97 ∷ 100 ∷ 100 ∷ []) ∷ word ∷ [] =
    words_some (97 ∷ 100 ∷ 100 ∷ []) word add_lacks ∙ ap (λ ws. (97 ∷ 100 ∷ 100 ∷ []) ∷ ws) (words_none word (digits_lack 32 word refl digits)) in
    let meant : said ((97 ∷ 100 ∷ 100 ∷ []) ∷ word ∷ []) ≡ Some (line.Step (step.Add hash None)) = rw spells refl in
    ap (map (λ l. said (words l))) lines ∙ ap (λ s. s ∷ says rest) (ap said split ∙ meant)

pub says_add_value : (text word second rest : List ℕ) (hash value : ℕ) → text ≡ 97 ∷ 100 ∷ 100 ∷ 32 ∷ (word ++ 32 ∷ (second ++ 10 ∷ rest)) → all_ascii_digits word ≡ true → number_of_word word ≡ Some hash → all_ascii_digits second ≡ true → number_of_word second ≡ Some value → says text ≡ Some (line.Step (step.Add hash (Some value))) ∷ says rest
says_add_value text word second rest hash value e digits spells more_digits more_spells =
    let both = word ++ 32 ∷ second in
    let front = 97 ∷ 100 ∷ 100 ∷ 32 ∷ both in
    let joined : word ++ 32 ∷ (second ++ 10 ∷ rest) ≡ both ++ 10 ∷ rest = sym (append_assoc word (32 ∷ second) (10 ∷ rest)) in
    let apart : Lacks 10 both = Lacks_both 10 word (32 ∷ second) (digits_lack 10 word refl digits) (Lacks_one 10 32 second (λ q. absurd (omega arith)) (digits_lack 10 second refl more_digits)) in
    let lines : lines_of text ≡ front ∷ lines_of rest =
    ap lines_of (e ∙ ap (λ t. 97 ∷ 100 ∷ 100 ∷ 32 ∷ t) joined) ∙ lines_some front rest (added_lacks both apart) in
    let split : words front ≡ (97 ∷ 100 ∷ 100 ∷ []) ∷ word ∷ second ∷ [] =
    words_some (97 ∷ 100 ∷ 100 ∷ []) both add_lacks
    ∙ ap (λ ws. (97 ∷ 100 ∷ 100 ∷ []) ∷ ws) (words_some word second (digits_lack 32 word refl digits) ∙ ap (λ ws. word ∷ ws) (words_none second (digits_lack 32 second refl more_digits))) in
    let meant : said ((97 ∷ 100 ∷ 100 ∷ []) ∷ word ∷ second ∷ []) ≡ Some (line.Step (step.Add hash (Some value))) = rw (spells, more_spells) refl in
    ap (map (λ l. said (words l))) lines ∙ ap (λ s. s ∷ says rest) (ap said split ∙ meant)
