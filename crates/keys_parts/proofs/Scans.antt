-- What is passed on and skipped of blocks of bytes, and of a text.
use Rattle.std.proofs.Common.{◌≡◌, ℕ, zero, suc, ◌+◌, ◌-◌, ◌<◌, ◌≤◌, ◌&&◌, true, false, cond, eqb, List, [], ◌∷◌, ◌++◌, ◌⊎◌, length, take, drop, inl, inr, refl, sym, subst, ap, ◌∙◌, arith}
use Rattle.std.proofs.lemmas.Bool.{ne_eqb, cases_lt}
use Rattle.std.proofs.lemmas.Bool.Decides.{nat_tests}
use Rattle.std.specs.List.{concat, onto_first}
use Rattle.keys_lines.specs.Lines.{Lacks}
use Rattle.keys_parts.specs.Parts.{ended_lines, is_within, lines_within}
use Rattle.keys_parts.specs.Stages.{passed, skipped}
use Rattle.keys_parts.proofs.Lines.{is_before, is_at_place, same_lines, none_past, none_within, ended_some, AreSome}

lacks-rest : (b : ℕ) (bs : List ℕ) → Lacks 10 (b ∷ bs) → Lacks 10 bs
lacks-rest b bs h i lt = h (suc i) (omega arith)

first_not : (b : ℕ) (bs : List ℕ) → Lacks 10 (b ∷ bs) → eqb b 10 ≡ false
first_not b bs h = ne_eqb b 10 (h 0 (omega arith))

-- ---- blocks

pub passed-front : (bs more : List ℕ) (before : ℕ) → length bs ≤ before → passed before (bs ++ more) ≡ bs ++ passed (before - length bs) more
passed-front [] more before h = ap (λ (n : ℕ). passed n more) {x = before} {y = before - 0} (omega arith)
passed-front (b ∷ bs) more before h =
    let some : eqb before 0 ≡ false = grind (arith, nat_tests) in
    rw some (ap (λ l. b ∷ l) (passed-front bs more (before - 1) (omega arith) ∙ ap (λ (n : ℕ). bs ++ passed n more) {x = before - 1 - length bs} {y = before - length (b ∷ bs)} (omega arith)))

pub passed-lacking : (bs more : List ℕ) → Lacks 10 bs → passed 0 (bs ++ more) ≡ bs ++ passed 0 more
passed-lacking [] more h = refl
passed-lacking (b ∷ bs) more h = rw (first_not b bs h) (ap (λ l. b ∷ l) (passed-lacking bs more (lacks-rest b bs h)))

pub passed-line : (line rest : List ℕ) → Lacks 10 line → passed 0 (line ++ 10 ∷ rest) ≡ line ++ 10 ∷ []
passed-line [] rest h = refl
passed-line (b ∷ bs) rest h = rw (first_not b bs h) (ap (λ l. b ∷ l) (passed-line bs rest (lacks-rest b bs h)))

skipped-0 : (text : List ℕ) → skipped 0 text ≡ []
skipped-0 [] = refl
skipped-0 (b ∷ text) = refl

pub skipped-more : (bs more : List ℕ) (count : ℕ) → length bs < count → Lacks 10 (take count bs) → skipped count (bs ++ more) ≡ skipped (count - length bs) more
skipped-more [] more count h lacks = ap (λ (n : ℕ). skipped n more) {x = count} {y = count - 0} (omega arith)
skipped-more (b ∷ bs) more zero h lacks = absurd (omega arith)
skipped-more (b ∷ bs) more (suc n) h lacks =
    let some : eqb (suc n) 0 ≡ false = grind (arith, nat_tests) in
    let one : suc n - 1 ≡ n = omega arith in
    rw (some, first_not b (take n bs) lacks, one) (skipped-more bs more n (omega arith) (lacks-rest b (take n bs) lacks) ∙ ap (λ (m : ℕ). skipped m more) {x = n - length bs} {y = suc n - length (b ∷ bs)} (omega arith))

pub skipped-done : (bs more : List ℕ) (count : ℕ) → count ≤ length bs → Lacks 10 (take count bs) → skipped count (bs ++ more) ≡ []
skipped-done bs more zero h lacks = skipped-0 (bs ++ more)
skipped-done [] more (suc n) h lacks = absurd (omega arith)
skipped-done (b ∷ bs) more (suc n) h lacks =
    let some : eqb (suc n) 0 ≡ false = grind (arith, nat_tests) in
    let one : suc n - 1 ≡ n = omega arith in
    rw (some, first_not b (take n bs) lacks, one) (skipped-done bs more n (omega arith) (lacks-rest b (take n bs) lacks))

pub skipped-line : (line rest : List ℕ) (count : ℕ) → length line + 1 ≤ count → Lacks 10 line → skipped count (line ++ 10 ∷ rest) ≡ passed (count - (length line + 1)) rest
skipped-line [] rest count h lacks = let some : eqb count 0 ≡ false = grind (arith, nat_tests) in rw some (ap (λ (n : ℕ). passed n rest) {x = count - 1} {y = count - (0 + 1)} (omega arith))
skipped-line (b ∷ bs) rest count h lacks =
    let some : eqb count 0 ≡ false = grind (arith, nat_tests) in
    rw (some, first_not b bs lacks) (skipped-line bs rest (count - 1) (omega arith) (lacks-rest b bs lacks) ∙ ap (λ (n : ℕ). passed n rest) {x = count - 1 - (length bs + 1)} {y = count - (length (b ∷ bs) + 1)} (omega arith))

-- ---- texts

-- the lines that begin before the place after so many bytes
later_passed : (before : ℕ) (b : ℕ) (l : List ℕ) (ls : List (List ℕ)) → 0 < length l → lines_within 0 (before - 1 + 1) (0 + length l) ls ≡ lines_within 0 (before + 1) (0 + length (b ∷ l)) ls
later_passed before b l ls some = same_lines 0 (before - 1 + 1) 0 (before + 1) ls (0 + length l) (0 + length (b ∷ l)) (λ k. grind (arith, nat_tests))

pub passed_is : (text : List ℕ) (before : ℕ) → passed before text ≡ concat (lines_within 0 (before + 1) 0 (ended_lines text))
passed_is [] before = refl
passed_is (b ∷ text) before =
    let first : is_within 0 (before + 1) 0 ≡ true = is_at_place 0 (before + 1) 0 (omega arith) (omega arith) in
    (elim (eqb b 10) as (λ t. eqb b 10 ≡ t → b ∷ cond (eqb before 0 && t) [] (passed (before - 1) text) ≡ concat (lines_within 0 (before + 1) 0 (cond t ((b ∷ []) ∷ ended_lines text) (onto_first b (ended_lines text))))) [
      | true ↦ λ e. rw first (elim (cases_lt 0 before) [
        | inl some ↦
            let not_last : eqb before 0 ≡ false = grind (arith, nat_tests) in
            rw not_last (ap (λ l. b ∷ l) (passed_is text (before - 1) ∙ ap concat (same_lines 0 (before - 1 + 1) 0 (before + 1) (ended_lines text) 0 (0 + 1) (λ k. grind (arith, nat_tests)))))
        | inr none ↦
            let last : eqb before 0 ≡ true = grind (arith, nat_tests) in
            rw last (ap (λ l. b ∷ l) (sym (ap concat (none_past 0 (before + 1) (ended_lines text) (0 + 1) (omega arith)))))
      ])
      | false ↦ λ e.
          let test : (eqb before 0 && false) ≡ false = grind (arith, nat_tests) in
          rw test (
          (elim (ended_lines text) as (λ es. ended_lines text ≡ es → b ∷ passed (before - 1) text ≡ concat (lines_within 0 (before + 1) 0 (onto_first b es))) [
            | [] ↦ λ is. rw first (ap (λ l. b ∷ l) (passed_is text (before - 1) ∙ ap (λ es. concat (lines_within 0 (before - 1 + 1) 0 es)) is))
            | l ∷ ls ↦ λ is.
                let some : AreSome (l ∷ ls) = subst AreSome is (ended_some text) in
                let first_too : is_within 0 (before - 1 + 1) 0 ≡ true = is_at_place 0 (before - 1 + 1) 0 (omega arith) (omega arith) in
                let one : lines_within 0 (before - 1 + 1) 0 (l ∷ ls) ≡ l ∷ lines_within 0 (before - 1 + 1) (0 + length l) ls = rw first_too refl in
                rw first (ap (λ t. b ∷ t) (passed_is text (before - 1) ∙ ap (λ es. concat (lines_within 0 (before - 1 + 1) 0 es)) is ∙ ap concat one ∙ ap (λ es. l ++ concat es) (later_passed before b l ls some.0)))
          ]) refl)
    ]) refl

drop_nil : (n : ℕ) → ◌≡◌ {A = List ℕ} (drop n []) []
drop_nil zero = refl
drop_nil (suc n) = refl

same_test : (before count from to long k : ℕ) → 0 < long → ((before + 2 ≡ from) ⊎ (before ≡ 0) × (1 ≡ from)) → before + 2 + count ≡ to → is_within (before + 1) (before + 1 + count) (0 + long + k) ≡ is_within from to (0 + suc long + k)
same_test before count from to long k some at end = grind (arith, nat_tests)

-- a line that began before the range doesn't belong to it, with one byte more as well
later_skipped : (b : ℕ) (text : List ℕ) (before count from to : ℕ) {rest : List ℕ} → ((before + 2 ≡ from) ⊎ (before ≡ 0) × (1 ≡ from)) → before + 2 + count ≡ to
    → rest ≡ concat (lines_within (before + 1) (before + 1 + count) 0 (ended_lines text))
    → rest ≡ concat (lines_within from to 0 (onto_first b (ended_lines text)))
later_skipped b text before count from to at end is = is ∙ (elim (ended_lines text) as (λ es. ended_lines text ≡ es → concat (lines_within (before + 1) (before + 1 + count) 0 es) ≡ concat (lines_within from to 0 (onto_first b es))) [
  | [] ↦ λ e. let no : is_within from to 0 ≡ false = is_before from to 0 (grind arith) in rw no refl
  | l ∷ ls ↦ λ e.
      let some : AreSome (l ∷ ls) = subst AreSome e (ended_some text) in
      let no : is_within from to 0 ≡ false = is_before from to 0 (grind arith) in
      let none : is_within (before + 1) (before + 1 + count) 0 ≡ false = is_before (before + 1) (before + 1 + count) 0 (omega arith) in
      rw (no, none) (ap concat (same_lines (before + 1) (before + 1 + count) from to ls (0 + length l) (0 + length (b ∷ l)) (λ k. same_test before count from to (length l) k some.0 at end)))
]) refl

-- the lines that begin after a place, and before the place after so many bytes
pub skipped_is : (text : List ℕ) (before count : ℕ) → skipped count (drop before text) ≡ concat (lines_within (before + 1) (before + 1 + count) 0 (ended_lines text))
skipped_is [] before count = ap (skipped count) (drop_nil before)
skipped_is (b ∷ text) zero count =
    let first : is_within (0 + 1) (0 + 1 + count) 0 ≡ false = is_before (0 + 1) (0 + 1 + count) 0 (omega arith) in
    elim (cases_lt 0 count) [
      | inr none ↦
          let no : count ≡ 0 = omega arith in
          let empty : lines_within (0 + 1) (0 + 1 + count) 0 (ended_lines (b ∷ text)) ≡ [] = none_within (0 + 1) (0 + 1 + count) (ended_lines (b ∷ text)) 0 (omega arith) in
          ap (λ (n : ℕ). skipped n (b ∷ text)) no ∙ sym (ap concat empty)
      | inl some ↦
          let more : eqb count 0 ≡ false = grind (arith, nat_tests) in
          rw more (
          (elim (eqb b 10) as (λ t. cond t (passed (count - 1) text) (skipped (count - 1) text) ≡ concat (lines_within (0 + 1) (0 + 1 + count) 0 (cond t ((b ∷ []) ∷ ended_lines text) (onto_first b (ended_lines text))))) [
            | true ↦ rw first (passed_is text (count - 1) ∙ ap concat (same_lines 0 (count - 1 + 1) (0 + 1) (0 + 1 + count) (ended_lines text) 0 (0 + 1) (λ k. grind (arith, nat_tests))))
            | false ↦ later_skipped b text 0 (count - 1) (0 + 1) (0 + 1 + count) (inr (refl, omega arith)) (omega arith) (skipped_is text 0 (count - 1))
          ]))
    ]
skipped_is (b ∷ text) (suc f) count =
    let first : is_within (suc f + 1) (suc f + 1 + count) 0 ≡ false = is_before (suc f + 1) (suc f + 1 + count) 0 (omega arith) in
    elim (eqb b 10) as (λ t. skipped count (drop f text) ≡ concat (lines_within (suc f + 1) (suc f + 1 + count) 0 (cond t ((b ∷ []) ∷ ended_lines text) (onto_first b (ended_lines text))))) [
      | true ↦ rw first (skipped_is text f count ∙ ap concat (same_lines (f + 1) (f + 1 + count) (suc f + 1) (suc f + 1 + count) (ended_lines text) 0 (0 + 1) (λ k. grind (arith, nat_tests))))
      | false ↦ later_skipped b text f count (suc f + 1) (suc f + 1 + count) (inl (omega arith)) (omega arith) (skipped_is text f count)
    ]
