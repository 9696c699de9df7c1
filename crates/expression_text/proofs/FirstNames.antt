-- Names in the order of their first occurrences, token by token.
use Rattle.std.proofs.Common.{◌≡◌, ℕ, zero, suc, ◌<◌, Bool, true, false, cond, List, [], ◌∷◌, ◌++◌, length, get_or, refl, ap, sym, ◌∙◌, arith, append-nil}
use Rattle.std.specs.Prelude.{◌||◌, not}
use Rattle.std.specs.Str.{bytes_eq}
use Rattle.std.proofs.lemmas.Slice.Eq.{bytes_eq-Decides}
use Rattle.std.proofs.lemmas.List.Elements.{filter-append}
use Rattle.expression_text.specs.declared.operator.Step.{Step}
use Rattle.expression_text.specs.Grammar.{without, names_in, IsExpressionText}
use Rattle.expression_text.specs.Tokens.{Lexeme, name, sign, opening, closing}
use Rattle.expression_text.specs.Reading.{HasName, has_name, with_name, IsIndexed}
use Rattle.expression_text.proofs.NextToken.{same_tokens}

-- tokens without a name add none
pub none_added : (tokens more : List Lexeme) → names_in more ≡ [] → names_in (tokens ++ more) ≡ names_in tokens
none_added [] more none = none
none_added (name word ∷ tokens) more none = ap (λ ns. word ∷ without word ns) (none_added tokens more none)
none_added (sign op ∷ tokens) more none = none_added tokens more none
none_added (opening ∷ tokens) more none = none_added tokens more none
none_added (closing ∷ tokens) more none = none_added tokens more none

-- ---- one more name

same_word : (a b : List ℕ) → bytes_eq a b ≡ true → a ≡ b
same_word a b same = (bytes_eq-Decides a b).0 same

word_itself : (a b : List ℕ) → a ≡ b → bytes_eq a b ≡ true
word_itself a b same = (bytes_eq-Decides a b).1 same

or_true : (b : Bool) → (b || true) ≡ true
or_true true = refl
or_true false = refl

other_words : (a b : List ℕ) → bytes_eq a b ≡ false → bytes_eq b a ≡ false
other_words a b differs =
    (elim (bytes_eq b a) as (λ t. bytes_eq b a ≡ t → t ≡ false) [
      | true ↦ λ e. sym (word_itself a b (sym (same_word b a e))) ∙ differs
      | false ↦ λ e. refl
    ]) refl

-- of words but another this one is one, if it is one of all
still_has : (other word : List ℕ) (names : List (List ℕ)) → bytes_eq other word ≡ false → has_name (without other names) word ≡ has_name names word
still_has other word [] differs = refl
still_has other word (n ∷ names) differs =
    (elim (bytes_eq n other) as (λ b. bytes_eq n other ≡ b → has_name (cond (not b) (n ∷ without other names) (without other names)) word ≡ (bytes_eq n word || has_name names word)) [
      | true ↦ λ e.
          let same : n ≡ other = same_word n other e in
          let no : bytes_eq n word ≡ false = ap (λ (w : List ℕ). bytes_eq w word) same ∙ differs in
          still_has other word names differs ∙ sym (ap (λ b. b || has_name names word) no)
      | false ↦ λ e. ap (λ b. bytes_eq n word || b) (still_has other word names differs)
    ]) refl

-- a word that is dropped, and one that stays
dropped : (word other : List ℕ) → bytes_eq other word ≡ true → without word (other ∷ []) ≡ []
dropped word other same = ap (λ b. cond (not b) (other ∷ []) []) same

kept : (word other : List ℕ) → bytes_eq other word ≡ false → without word (other ∷ []) ≡ other ∷ []
kept word other differs = ap (λ b. cond (not b) (other ∷ []) []) differs

-- behind a name, one more word
behind_name : (first word : List ℕ) (names : List (List ℕ)) → first ∷ without first (with_name names word) ≡ with_name (first ∷ without first names) word
behind_name first word names =
    (elim (bytes_eq first word) as (λ b. bytes_eq first word ≡ b → first ∷ without first (with_name names word) ≡ cond (b || has_name (without first names) word) (first ∷ without first names) (first ∷ without first names ++ word ∷ [])) [
      | true ↦ λ e.
          let same : bytes_eq word first ≡ true = word_itself word first (sym (same_word first word e)) in
          (elim (has_name names word) as (λ h. first ∷ without first (cond h names (names ++ word ∷ [])) ≡ first ∷ without first names) [
            | true ↦ refl
            | false ↦ ap (λ ns. first ∷ ns) (filter-append (λ other. not (bytes_eq other first)) names (word ∷ []) ∙ ap (λ ns. without first names ++ ns) (dropped first word same) ∙ append-nil (without first names))
          ])
      | false ↦ λ e.
          let differs : bytes_eq word first ≡ false = other_words first word e in
          let has = still_has first word names e in
          (elim (has_name names word) as (λ h. first ∷ without first (cond h names (names ++ word ∷ [])) ≡ cond h (first ∷ without first names) (first ∷ without first names ++ word ∷ [])) [
            | true ↦ refl
            | false ↦ ap (λ ns. first ∷ ns) (filter-append (λ other. not (bytes_eq other first)) names (word ∷ []) ∙ ap (λ ns. without first names ++ ns) (kept first word differs))
          ]) ∙ sym (ap (λ h. cond h (first ∷ without first names) (first ∷ without first names ++ word ∷ [])) has)
    ]) refl

-- a name is appended to those in tokens, if it isn't among them
pub name_added : (tokens : List Lexeme) (word : List ℕ) → names_in (tokens ++ name word ∷ []) ≡ with_name (names_in tokens) word
name_added [] word = refl
name_added (name first ∷ tokens) word = ap (λ ns. first ∷ without first ns) (name_added tokens word) ∙ behind_name first word (names_in tokens)
name_added (sign op ∷ tokens) word = name_added tokens word
name_added (opening ∷ tokens) word = name_added tokens word
name_added (closing ∷ tokens) word = name_added tokens word

-- ---- names that have a word, or don't

found_name : (names : List (List ℕ)) (word : List ℕ) (i : ℕ) → i < length names → get_or names i [] ≡ word → has_name names word ≡ true
found_name [] word i inside same = absurd (omega (arith, inside))
found_name (n ∷ names) word zero inside same = ap (λ b. b || has_name names word) (word_itself n word same)
found_name (n ∷ names) word (suc i) inside same = ap (λ b. bytes_eq n word || b) (found_name names word i (omega (arith, inside)) same) ∙ or_true (bytes_eq n word)

pub no_name : (names : List (List ℕ)) (word : List ℕ) → ((k : ℕ) → k < length names → bytes_eq (get_or names k []) word ≡ false) → has_name names word ≡ false
no_name [] word each = refl
no_name (n ∷ names) word each =
    ap (λ b. b || has_name names word) (each 0 (omega arith)) ∙ no_name names word (λ k inside. each (suc k) (omega (arith, inside)))

-- a name that is there is not appended
pub found_there : (names : List (List ℕ)) (word : List ℕ) (i : ℕ) → HasName names word i → IsIndexed names names word i
found_there names word i found = record {
  more = [];
  appended = sym (append-nil names);
  named = sym (ap (λ b. cond b names (names ++ word ∷ [])) (found_name names word i found.inside found.same));
  found = found;
}

-- ---- a text has one list of names

pub same_names : (text : List ℕ) (names others : List (List ℕ)) (steps more : List Step) → IsExpressionText text names steps → IsExpressionText text others more → names ≡ others
same_names text names others steps more a b = a.names_are ∙ ap names_in (same_tokens a.spelled.tokens b.spelled.tokens text a.spelled.is_text b.spelled.is_text) ∙ sym b.names_are
