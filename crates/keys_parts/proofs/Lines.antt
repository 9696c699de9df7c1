-- The lines of a text that begin in a range.
use Rattle.std.proofs.Common.{◌≡◌, ℕ, ◌+◌, ◌<◌, ◌≤◌, Bool, true, false, cond, eqb, List, [], ◌∷◌, ◌++◌, ◌⊎◌, inl, inr, length, refl, sym, ap, ◌∙◌, subst, arith, append_assoc, append-nil, length-append}
use Rattle.std.proofs.lemmas.Bool.{cases_lt}
use Rattle.std.proofs.lemmas.Bool.Decides.{nat_tests}
use Rattle.std.proofs.lemmas.List.Folds.{concat-append}
use Rattle.std.specs.Prelude.{⊤}
use Rattle.std.specs.List.{concat, onto_first}
use Rattle.keys_lines.specs.Lines.{lines_of, lines_of_all, IsWhole, nothing, ended}
use Rattle.keys_parts.specs.Parts.{ended_lines, is_within, lines_within}

-- ---- which places are in a range

pub is_at_place : (from to place : ℕ) → from ≤ place → place < to → is_within from to place ≡ true
is_at_place from to place low high = grind (arith, nat_tests)

pub is_before : (from to place : ℕ) → place < from → is_within from to place ≡ false
is_before from to place h = grind (arith, nat_tests)

pub is_past : (from to place : ℕ) → to ≤ place → is_within from to place ≡ false
is_past from to place h = grind (arith, nat_tests)

-- ---- ranges of lines

module _ (from to other_from other_to : ℕ) where
  -- ranges in which the same places are, counted from two places
  pub same_lines : (lines : List (List ℕ)) (place other : ℕ) → ((k : ℕ) → is_within from to (place + k) ≡ is_within other_from other_to (other + k)) → lines_within from to place lines ≡ lines_within other_from other_to other lines
  same_lines [] place other same = refl
  same_lines (line ∷ lines) place other same =
      let here : is_within from to place ≡ is_within other_from other_to other = ap (is_within from to) {x = place} {y = place + 0} (omega arith) ∙ same 0 ∙ ap (is_within other_from other_to) {x = other + 0} {y = other} (omega arith) in
      let later = same_lines lines (place + length line) (other + length line) (λ k. ap (is_within from to) {x = (place + length line) + k} {y = place + (length line + k)} (omega arith) ∙ same (length line + k) ∙ ap (is_within other_from other_to) {x = other + (length line + k)} {y = (other + length line) + k} (omega arith)) in
      ap (λ b. cond b (line ∷ lines_within from to (place + length line) lines) (lines_within from to (place + length line) lines)) here
      ∙ ap (λ ls. cond (is_within other_from other_to other) (line ∷ ls) ls) later

-- no line begins past a range
pub none_past : (from to : ℕ) (lines : List (List ℕ)) (place : ℕ) → to ≤ place → lines_within from to place lines ≡ []
none_past from to [] place h = refl
none_past from to (line ∷ lines) place h = rw (is_past from to place h) (none_past from to lines (place + length line) (omega arith))

-- none begins in an empty range
pub none_within : (from to : ℕ) (lines : List (List ℕ)) (place : ℕ) → to ≤ from → lines_within from to place lines ≡ []
none_within from to [] place h = refl
none_within from to (line ∷ lines) place h = let no : is_within from to place ≡ false = grind (arith, nat_tests) in rw no (none_within from to lines (place + length line) h)

-- two ranges that follow one another
pub adjacent : (from middle to : ℕ) (lines : List (List ℕ)) (place : ℕ) → from ≤ middle → middle ≤ to → lines_within from to place lines ≡ lines_within from middle place lines ++ lines_within middle to place lines
adjacent from middle to [] place low high = refl
adjacent from middle to (line ∷ lines) place low high =
    let later = adjacent from middle to lines (place + length line) low high in
    elim (cases_lt place middle) [
      | inl lt ↦
          let second : is_within middle to place ≡ false = is_before middle to place lt in
          let same : is_within from to place ≡ is_within from middle place = grind (arith, nat_tests) in
          rw (second, same) (
          elim (is_within from middle place) as (λ b. cond b (line ∷ lines_within from to (place + length line) lines) (lines_within from to (place + length line) lines) ≡ cond b (line ∷ lines_within from middle (place + length line) lines) (lines_within from middle (place + length line) lines) ++ lines_within middle to (place + length line) lines) [
            | true ↦ ap (λ ls. line ∷ ls) later
            | false ↦ later
          ])
      | inr ge ↦
          let first : is_within from middle place ≡ false = is_past from middle place ge in
          let past : lines_within from middle (place + length line) lines ≡ [] = none_past from middle lines (place + length line) (omega arith) in
          let same : is_within from to place ≡ is_within middle to place = grind (arith, nat_tests) in
          let rest : lines_within from to (place + length line) lines ≡ lines_within middle to (place + length line) lines = later ∙ ap (λ ls. ls ++ lines_within middle to (place + length line) lines) past in
          rw (first, same, past) (ap (λ ls. cond (is_within middle to place) (line ∷ ls) ls) rest)
    ]

-- ---- the lines of a text, each with its end

-- each line has a byte
abbrev pub AreSome : List (List ℕ) → Type 0
AreSome [] = ⊤
AreSome (line ∷ lines) = (0 < length line) × AreSome lines

onto_some : (byte : ℕ) (lines : List (List ℕ)) → AreSome lines → AreSome (onto_first byte lines)
onto_some byte [] some = (omega arith, tt)
onto_some byte (line ∷ lines) some = (omega arith, some.1)

pub ended_some : (text : List ℕ) → AreSome (ended_lines text)
ended_some [] = tt
ended_some (byte ∷ text) =
    elim (eqb byte 10) as (λ b. AreSome (cond b ((byte ∷ []) ∷ ended_lines text) (onto_first byte (ended_lines text)))) [
      | true ↦ (omega arith, ended_some text)
      | false ↦ onto_some byte (ended_lines text) (ended_some text)
    ]

onto_concat : (byte : ℕ) (lines : List (List ℕ)) → concat (onto_first byte lines) ≡ byte ∷ concat lines
onto_concat byte [] = refl
onto_concat byte (line ∷ lines) = refl

pub ended_concat : (text : List ℕ) → concat (ended_lines text) ≡ text
ended_concat [] = refl
ended_concat (byte ∷ text) =
    elim (eqb byte 10) as (λ b. concat (cond b ((byte ∷ []) ∷ ended_lines text) (onto_first byte (ended_lines text))) ≡ byte ∷ text) [
      | true ↦ ap (λ l. byte ∷ l) (ended_concat text)
      | false ↦ onto_concat byte (ended_lines text) ∙ ap (λ l. byte ∷ l) (ended_concat text)
    ]

-- each begins before the end of the text
pub all_within : (to : ℕ) (lines : List (List ℕ)) (place : ℕ) → AreSome lines → place + length (concat lines) ≤ to → lines_within 0 to place lines ≡ lines
all_within to [] place some h = refl
all_within to (line ∷ lines) place some h =
    let long : length (concat (line ∷ lines)) ≡ length line + length (concat lines) = length-append line (concat lines) in
    let here : is_within 0 to place ≡ true = is_at_place 0 to place (omega arith) (omega (arith, some.0, h, long)) in
    rw here (ap (λ ls. line ∷ ls) (all_within to lines (place + length line) some.1 (omega (arith, h, long))))

-- each line ends in an LF, but perhaps the last
abbrev pub AreEnded : List (List ℕ) → Type 0
AreEnded [] = ⊤
AreEnded (line ∷ lines) = (IsWhole line ⊎ (lines ≡ [])) × AreEnded lines

whole_more : (byte : ℕ) (line : List ℕ) → 0 < length line → IsWhole line → IsWhole (byte ∷ line)
whole_more byte _ some nothing = absurd (omega arith)
whole_more byte _ some (ended front) = ended (byte ∷ front)

onto_ended : (byte : ℕ) (lines : List (List ℕ)) → AreSome lines → AreEnded lines → AreEnded (onto_first byte lines)
onto_ended byte [] some are = (inr refl, tt)
onto_ended byte (line ∷ lines) some are = (elim are.0 [ inl whole ↦ inl (whole_more byte line some.0 whole) | inr last ↦ inr last ], are.1)

pub ended_are : (text : List ℕ) → AreEnded (ended_lines text)
ended_are [] = tt
ended_are (byte ∷ text) =
    (elim (eqb byte 10) as (λ b. eqb byte 10 ≡ b → AreEnded (cond b ((byte ∷ []) ∷ ended_lines text) (onto_first byte (ended_lines text)))) [
      | true ↦ λ e. let lf : 10 ≡ byte = grind (arith, nat_tests) in (inl (subst (λ (x : ℕ). IsWhole (x ∷ [])) lf (ended [])), ended_are text)
      | false ↦ λ e. onto_ended byte (ended_lines text) (ended_some text) (ended_are text)
    ]) refl

within_ended : (from to place : ℕ) (lines : List (List ℕ)) → AreEnded lines → AreEnded (lines_within from to place lines)
within_ended from to place [] are = tt
within_ended from to place (line ∷ lines) are =
    let later = within_ended from to (place + length line) lines are.1 in
    elim (is_within from to place) as (λ b. AreEnded (cond b (line ∷ lines_within from to (place + length line) lines) (lines_within from to (place + length line) lines))) [
      | true ↦ (elim are.0 [ inl whole ↦ inl whole | inr last ↦ inr (ap (lines_within from to (place + length line)) last) ], later)
      | false ↦ later
    ]

-- ---- the lines of texts that follow one another

onto_first-append : (b : ℕ) (ls ms : List (List ℕ)) → (ls ≡ [] → ⊥) → onto_first b (ls ++ ms) ≡ onto_first b ls ++ ms
onto_first-append b [] ms some = absurd (some refl)
onto_first-append b (l ∷ ls) ms some = refl

not_nil_step : (t : Bool) (b : ℕ) (ls : List (List ℕ)) → cond t ([] ∷ ls) (onto_first b ls) ≡ [] → ⊥
not_nil_step true b ls e = cc
not_nil_step false b [] e = cc
not_nil_step false b (l ∷ ls) e = cc

some_line : (text : List ℕ) → lines_of (text ++ 10 ∷ []) ≡ [] → ⊥
some_line [] e = cc
some_line (b ∷ text) e = not_nil_step (eqb b 10) b (lines_of (text ++ 10 ∷ [])) e

ended-append : (text more : List ℕ) → lines_of (text ++ 10 ∷ more) ≡ lines_of (text ++ 10 ∷ []) ++ lines_of more
ended-append [] more = refl
ended-append (b ∷ text) more =
    elim (eqb b 10) as (λ t. cond t ([] ∷ lines_of (text ++ 10 ∷ more)) (onto_first b (lines_of (text ++ 10 ∷ more))) ≡ cond t ([] ∷ lines_of (text ++ 10 ∷ [])) (onto_first b (lines_of (text ++ 10 ∷ []))) ++ lines_of more) [
      | true ↦ ap (λ ls. [] ∷ ls) (ended-append text more)
      | false ↦ ap (onto_first b) (ended-append text more) ∙ onto_first-append b (lines_of (text ++ 10 ∷ [])) (lines_of more) (some_line text)
    ]

whole-append : (text more : List ℕ) → IsWhole text → lines_of (text ++ more) ≡ lines_of text ++ lines_of more
whole-append _ more nothing = refl
whole-append _ more (ended text) = ap lines_of (append_assoc text (10 ∷ []) more) ∙ ended-append text more

nil_front : (xs ys : List (List ℕ)) → xs ++ ys ≡ [] → xs ≡ []
nil_front [] ys e = refl
nil_front (x ∷ xs) ys e = absurd (cc)

nil_behind : (xs ys : List (List ℕ)) → xs ++ ys ≡ [] → ys ≡ []
nil_behind [] ys e = e
nil_behind (x ∷ xs) ys e = absurd (cc)

pub lines_split : (front behind : List (List ℕ)) → AreEnded (front ++ behind) → lines_of (concat front ++ concat behind) ≡ lines_of (concat front) ++ lines_of (concat behind)
lines_split [] behind are = refl
lines_split (line ∷ front) behind are = elim are.0 [
  | inl whole ↦
      ap lines_of (append_assoc line (concat front) (concat behind))
      ∙ whole-append line (concat front ++ concat behind) whole
      ∙ ap (λ ls. lines_of line ++ ls) (lines_split front behind are.1)
      ∙ sym (append_assoc (lines_of line) (lines_of (concat front)) (lines_of (concat behind)))
      ∙ ap (λ ls. ls ++ lines_of (concat behind)) (sym (whole-append line (concat front) whole))
  | inr last ↦
      let none : concat behind ≡ [] = ap concat (nil_behind front behind last) in
      rw none (ap lines_of (append-nil (line ++ concat front)) ∙ sym (append-nil (lines_of (line ++ concat front))))
]

pub lines_of_all-append : (texts more : List (List ℕ)) → lines_of_all (texts ++ more) ≡ lines_of_all texts ++ lines_of_all more
lines_of_all-append [] more = refl
lines_of_all-append (text ∷ texts) more = ap (λ ls. lines_of text ++ ls) (lines_of_all-append texts more) ∙ sym (append_assoc (lines_of text) (lines_of_all texts) (lines_of_all more))

-- the lines of two ranges that follow one another
pub adjacent_lines : (from middle to : ℕ) (text : List ℕ) → from ≤ middle → middle ≤ to →
    lines_of (concat (lines_within from to 0 (ended_lines text))) ≡ lines_of (concat (lines_within from middle 0 (ended_lines text))) ++ lines_of (concat (lines_within middle to 0 (ended_lines text)))
adjacent_lines from middle to text low high =
    let joined = adjacent from middle to (ended_lines text) 0 low high in
    let front = lines_within from middle 0 (ended_lines text) in
    let behind = lines_within middle to 0 (ended_lines text) in
    ap (λ ls. lines_of (concat ls)) joined ∙ ap lines_of (concat-append front behind) ∙ lines_split front behind (subst AreEnded joined (within_ended from to 0 (ended_lines text) (ended_are text)))
