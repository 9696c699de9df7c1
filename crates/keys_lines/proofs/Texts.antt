-- Lines of texts that are read in pieces.
use Rattle.std.proofs.Common.{◌≡◌, ℕ, suc, ◌+◌, ◌<◌, ◌≤◌, true, false, cond, eqb, List, [], ◌∷◌, ◌++◌, length, map, take, set, refl, sym, subst, ap, ◌∙◌, arith, append_assoc, append-nil, length-append}
use Rattle.std.specs.List.{onto_first}
use Rattle.std.proofs.lemmas.Bool.{ne_eqb}
use Rattle.std.proofs.lemmas.List.{map-append, take_more_set, length-set}
use Rattle.keys_lines.specs.Lines.{lines_of, lines_after, Lacks}
use Rattle.keys_lines.specs.Keys.{line_hash}
use Rattle.keys_lines.specs.Hashed.{BeginsWithLine, BeginsWithTwo, AreHashesOfLines}
use Rattle.keys_lines.specs.declared.key.Hashing.{Hashing}

lacks-rest : (b : ℕ) (bs : List ℕ) → Lacks 10 (b ∷ bs) → Lacks 10 bs
lacks-rest b bs h i lt = h (suc i) (omega arith)

first_not : (b : ℕ) (bs : List ℕ) → Lacks 10 (b ∷ bs) → eqb b 10 ≡ false
first_not b bs h = ne_eqb b 10 (h 0 (omega arith))

-- a line ends
pub lines_after-line : (front line rest : List ℕ) → Lacks 10 line → lines_after front (line ++ 10 ∷ rest) ≡ (front ++ line) ∷ lines_after [] rest
lines_after-line front [] rest h = ap (λ l. l ∷ lines_after [] rest) (sym (append-nil front))
lines_after-line front (b ∷ bs) rest h =
    rw (first_not b bs h) (lines_after-line (front ++ b ∷ []) bs rest (lacks-rest b bs h) ∙ ap (λ l. l ∷ lines_after [] rest) (append_assoc front (b ∷ []) bs))

-- a line continues
pub lines_after-lacking : (front text more : List ℕ) → Lacks 10 text → lines_after front (text ++ more) ≡ lines_after (front ++ text) more
lines_after-lacking front [] more h = ap (λ l. lines_after l more) (sym (append-nil front))
lines_after-lacking front (b ∷ bs) more h =
    rw (first_not b bs h) (lines_after-lacking (front ++ b ∷ []) bs more (lacks-rest b bs h) ∙ ap (λ l. lines_after l more) (append_assoc front (b ∷ []) bs))

-- bytes before lines
abbrev prepended : List ℕ → List (List ℕ) → List (List ℕ)
prepended front [] = cond (eqb (length front) 0) [] (front ∷ [])
prepended front (l ∷ ls) = (front ++ l) ∷ ls

prepended-nil : (ls : List (List ℕ)) → prepended [] ls ≡ ls
prepended-nil [] = refl
prepended-nil (l ∷ ls) = refl

has_byte : (front : List ℕ) (b : ℕ) → length (front ++ b ∷ []) ≡ 0 → ⊥
has_byte [] b e = omega arith
has_byte (x ∷ front) b e = omega arith

prepended-more : (front : List ℕ) (b : ℕ) (ls : List (List ℕ)) → prepended (front ++ b ∷ []) ls ≡ prepended front (onto_first b ls)
prepended-more front b [] =
    let some : eqb (length (front ++ b ∷ [])) 0 ≡ false = ne_eqb (length (front ++ b ∷ [])) 0 (has_byte front b) in
    ap (λ t. cond t [] ((front ++ b ∷ []) ∷ [])) some
prepended-more front b (l ∷ ls) = ap (λ m. m ∷ ls) (append_assoc front (b ∷ []) l)

lines_after-prepended : (front text : List ℕ) → lines_after front text ≡ prepended front (lines_of text)
lines_after-prepended front [] = refl
lines_after-prepended front (b ∷ text) =
    elim (eqb b 10) as (λ t. cond t (front ∷ lines_after [] text) (lines_after (front ++ b ∷ []) text) ≡ prepended front (cond t ([] ∷ lines_of text) (onto_first b (lines_of text)))) [
      | true ↦ ap (λ ls. front ∷ ls) (lines_after-prepended [] text ∙ prepended-nil (lines_of text)) ∙ ap (λ l. l ∷ lines_of text) (sym (append-nil front))
      | false ↦ lines_after-prepended (front ++ b ∷ []) text ∙ prepended-more front b (lines_of text)
    ]

-- the lines after no bytes are the lines of the text
pub lines_whole : (text : List ℕ) → lines_after [] text ≡ lines_of text
lines_whole text = lines_after-prepended [] text ∙ prepended-nil (lines_of text)

-- one more line is hashed
module _ (hashing : Hashing) where
  hashed_more : (text hashes rest others : List ℕ) (hash : ℕ) → AreHashesOfLines hashing text hashes rest → BeginsWithLine hashing rest hash others → AreHashesOfLines hashing text (hashes ++ hash ∷ []) others
  hashed_more text hashes rest others hash before begins =
      let line = begins.0 in (
        before.0 ++ line ∷ [],
        ap (λ hs. hs ++ hash ∷ []) before.1 ∙ ap (λ (h : ℕ). map (line_hash hashing) before.0 ++ h ∷ []) begins.3 ∙ sym (map-append (line_hash hashing) before.0 (line ∷ [])),
        λ more.
            before.2 more ∙ ap (λ bs. before.0 ++ lines_after [] (bs ++ more)) begins.2
            ∙ ap (λ bs. before.0 ++ lines_after [] bs) (append_assoc line (10 ∷ others) more)
            ∙ ap (λ ls. before.0 ++ ls) (lines_after-line [] line (others ++ more) begins.1)
            ∙ sym (append_assoc before.0 (line ∷ []) (lines_after [] (others ++ more))),
      )

  pub hashed_one : (text hashes rest others : List ℕ) (count hash : ℕ) → count < length hashes → AreHashesOfLines hashing text (take count hashes) rest → BeginsWithLine hashing rest hash others → AreHashesOfLines hashing text (take (count + 1) (set hashes count hash)) others
  hashed_one text hashes rest others count hash lt before begins =
      subst (λ hs. AreHashesOfLines hashing text hs others) (sym (take_more_set hashes count hash lt)) (hashed_more text (take count hashes) rest others hash before begins)

  pub hashed_two : (text hashes rest others : List ℕ) (count first second : ℕ) → count + 1 < length hashes → AreHashesOfLines hashing text (take count hashes) rest → BeginsWithTwo hashing rest first second others →
      AreHashesOfLines hashing text (take (count + 2) (set (set hashes count first) (count + 1) second)) others
  hashed_two text hashes rest others count first second lt before begins =
      let filled = set hashes count first in
      let two : (count + 1) + 1 ≡ count + 2 = omega arith in
      let one = hashed_one text hashes rest begins.0 count first (omega (arith, lt)) before begins.1 in
      let both = hashed_one text filled begins.0 others (count + 1) second (omega (arith, lt, length-set hashes count first)) one begins.2 in
      subst (λ (n : ℕ). AreHashesOfLines hashing text (take n (set filled (count + 1) second)) others) two both

  pub behind_shorter : (text others : List ℕ) (hash : ℕ) → BeginsWithLine hashing text hash others → length others + 1 ≤ length text
  behind_shorter text others hash begins =
      let long : length text ≡ length begins.0 + length (10 ∷ others) = ap length begins.2 ∙ length-append begins.0 (10 ∷ others) in omega (arith, long)
