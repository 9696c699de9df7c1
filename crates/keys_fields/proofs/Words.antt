-- The words of a line, appended with a tab between two.
use Rattle.std.proofs.Common.{◌≡◌, ℕ, suc, ◌+◌, ◌<◌, ◌≤◌, Bool, true, false, cond, eqb, List, [], ◌∷◌, ◌++◌, length, drop, get_or, refl, sym, ap, ◌∙◌, arith, append_assoc, append-nil}
use Rattle.std.proofs.Math.Seq.{drop-cons}
use Rattle.std.proofs.lemmas.List.{drop_all}
use Rattle.std.proofs.lemmas.Bool.{ne_eqb}
use Rattle.keys_fields.specs.Lines.{is_blank, joined, words_after, words_of}
use Rattle.keys_fields.proofs.Joining.{behind, first_joined}

-- what is appended of the rest of a line: a tab is due if blanks are behind a word
abbrev pub spaced : (is_behind is_due : Bool) → List ℕ → List ℕ
spaced is_behind is_due [] = []
spaced is_behind is_due (byte ∷ line) =
    cond (is_blank byte) (spaced is_behind is_behind line) (cond is_due (9 ∷ []) [] ++ byte ∷ spaced true false line)

-- a word that has bytes
not_empty : (word : List ℕ) (byte : ℕ) → eqb (length (word ++ byte ∷ [])) 0 ≡ false
not_empty [] byte = refl
not_empty (b ∷ word) byte = ne_eqb (length ((b ∷ word) ++ byte ∷ [])) 0 (λ e. omega (arith, e))

-- what a word that has begun, and the words behind it, are appended as
record AreSpaced (line : List ℕ) : Type 0 where
  first : (word : List ℕ) (byte : ℕ) → joined 9 (words_after (word ++ byte ∷ []) line) ≡ (word ++ byte ∷ []) ++ spaced true false line
  later : (word : List ℕ) (byte : ℕ) → behind 9 (words_after (word ++ byte ∷ []) line) ≡ 9 ∷ ((word ++ byte ∷ []) ++ spaced true false line)
  none : behind 9 (words_after [] line) ≡ spaced true true line

spaced_words : (line : List ℕ) → AreSpaced line
spaced_words [] = record {
  first = λ word byte. ap (λ e. joined 9 (cond e [] ((word ++ byte ∷ []) ∷ []))) (not_empty word byte) ∙ sym (append-nil (word ++ byte ∷ []));
  later = λ word byte. ap (λ e. behind 9 (cond e [] ((word ++ byte ∷ []) ∷ []))) (not_empty word byte) ∙ ap (λ bytes. 9 ∷ bytes) (sym (append-nil (word ++ byte ∷ [])));
  none = refl;
}
spaced_words (b ∷ line) =
    let rest = spaced_words line in
    record {
      first = λ word byte. elim (is_blank b) as (λ t. joined 9 (cond t (cond (eqb (length (word ++ byte ∷ [])) 0) (words_after [] line) ((word ++ byte ∷ []) ∷ words_after [] line)) (words_after ((word ++ byte ∷ []) ++ b ∷ []) line)) ≡ (word ++ byte ∷ []) ++ cond t (spaced true true line) ([] ++ b ∷ spaced true false line)) [
        | true ↦
            ap (λ e. joined 9 (cond e (words_after [] line) ((word ++ byte ∷ []) ∷ words_after [] line))) (not_empty word byte)
            ∙ first_joined 9 (word ++ byte ∷ []) (words_after [] line)
            ∙ ap (λ bytes. (word ++ byte ∷ []) ++ bytes) rest.none
        | false ↦ rest.first (word ++ byte ∷ []) b ∙ append_assoc (word ++ byte ∷ []) (b ∷ []) (spaced true false line)
      ];
      later = λ word byte. elim (is_blank b) as (λ t. behind 9 (cond t (cond (eqb (length (word ++ byte ∷ [])) 0) (words_after [] line) ((word ++ byte ∷ []) ∷ words_after [] line)) (words_after ((word ++ byte ∷ []) ++ b ∷ []) line)) ≡ 9 ∷ ((word ++ byte ∷ []) ++ cond t (spaced true true line) ([] ++ b ∷ spaced true false line))) [
        | true ↦
            ap (λ e. behind 9 (cond e (words_after [] line) ((word ++ byte ∷ []) ∷ words_after [] line))) (not_empty word byte)
            ∙ ap (λ bytes. 9 ∷ bytes) (first_joined 9 (word ++ byte ∷ []) (words_after [] line))
            ∙ ap (λ bytes. 9 ∷ ((word ++ byte ∷ []) ++ bytes)) rest.none
        | false ↦ rest.later (word ++ byte ∷ []) b ∙ ap (λ bytes. 9 ∷ bytes) (append_assoc (word ++ byte ∷ []) (b ∷ []) (spaced true false line))
      ];
      none = elim (is_blank b) as (λ t. behind 9 (cond t (words_after [] line) (words_after (b ∷ []) line)) ≡ cond t (spaced true true line) (9 ∷ b ∷ spaced true false line)) [
        | true ↦ rest.none
        | false ↦ rest.later [] b
      ];
    }

pub words_spaced : (line : List ℕ) → joined 9 (words_of line) ≡ spaced false false line
words_spaced [] = refl
words_spaced (b ∷ line) = elim (is_blank b) as (λ t. joined 9 (cond t (words_after [] line) (words_after (b ∷ []) line)) ≡ cond t (spaced false false line) (b ∷ spaced true false line)) [
  | true ↦ words_spaced line
  | false ↦ (spaced_words line).first [] b
]

-- one byte more is read
pub spaced_next : (is_behind is_due : Bool) (line : List ℕ) (i : ℕ) → i < length line
    → spaced is_behind is_due (drop i line)
    ≡ cond (is_blank (get_or line i 0)) (spaced is_behind is_behind (drop (i + 1) line)) (cond is_due (9 ∷ []) [] ++ get_or line i 0 ∷ spaced true false (drop (i + 1) line))
spaced_next is_behind is_due line i within =
    ap (spaced is_behind is_due) (drop-cons line i 0 within ∙ ap (λ (n : ℕ). get_or line i 0 ∷ drop n line) {x = suc i} {y = i + 1} (omega arith))

module _ (old line : List ℕ) (is_behind is_due : Bool) (i : ℕ) (now : List ℕ) (within : i < length line) (is : old ++ spaced false false line ≡ now ++ spaced is_behind is_due (drop i line)) where
  pub blank_read : is_blank (get_or line i 0) ≡ true → old ++ spaced false false line ≡ now ++ spaced is_behind is_behind (drop (i + 1) line)
  blank_read e =
      is ∙ ap (λ bytes. now ++ bytes) (spaced_next is_behind is_due line i within
      ∙ ap (λ t. cond t (spaced is_behind is_behind (drop (i + 1) line)) (cond is_due (9 ∷ []) [] ++ get_or line i 0 ∷ spaced true false (drop (i + 1) line))) e)

  pub byte_read : is_blank (get_or line i 0) ≡ false → (next : List ℕ) → next ≡ (now ++ cond is_due (9 ∷ []) []) ++ get_or line i 0 ∷ [] → old ++ spaced false false line ≡ next ++ spaced true false (drop (i + 1) line)
  byte_read e next made =
      is ∙ ap (λ bytes. now ++ bytes) (spaced_next is_behind is_due line i within
      ∙ ap (λ t. cond t (spaced is_behind is_behind (drop (i + 1) line)) (cond is_due (9 ∷ []) [] ++ get_or line i 0 ∷ spaced true false (drop (i + 1) line))) e)
      ∙ sym (append_assoc now (cond is_due (9 ∷ []) []) (get_or line i 0 ∷ spaced true false (drop (i + 1) line)))
      ∙ sym (append_assoc (now ++ cond is_due (9 ∷ []) []) (get_or line i 0 ∷ []) (spaced true false (drop (i + 1) line)))
      ∙ ap (λ bytes. bytes ++ spaced true false (drop (i + 1) line)) (sym made)

pub all_read : (old line : List ℕ) (is_behind is_due : Bool) (i : ℕ) (now : List ℕ) → length line ≤ i → old ++ spaced false false line ≡ now ++ spaced is_behind is_due (drop i line) → now ≡ old ++ joined 9 (words_of line)
all_read old line is_behind is_due i now ended is =
    sym (append-nil now) ∙ ap (λ rest. now ++ spaced is_behind is_due rest) (sym (drop_all i line ended)) ∙ sym is ∙ ap (λ bytes. old ++ bytes) (sym (words_spaced line))
