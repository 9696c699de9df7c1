-- Lines that are read one after another.
use Rattle.std.proofs.Common.{◌≡◌, ℕ, ◌+◌, Bool, true, false, cond, eqb, List, [], ◌∷◌, ◌++◌, length, Option, Some, None, refl, sym, ap, ◌∙◌, arith, append-nil}
use Rattle.std.specs.Prelude.{IfSome}
use Rattle.std.specs.List.{onto_first}
use Rattle.std.specs.Io.BufRead.{take_through, drop_through, DropsThrough}
use Rattle.std.specs.Io.KnownBytes.{IsAtEnd}
use Rattle.keys_lines.specs.Lines.{lines_of}
use Rattle.keys_groups.specs.Groups.{without_lf}
use Rattle.keys_groups.specs.Reading.{ReadsLine}

onto_cond : (e : Bool) (b : ℕ) (xs ys : List ℕ) → b ∷ cond e xs ys ≡ cond e (b ∷ xs) (b ∷ ys)
onto_cond true b xs ys = refl
onto_cond false b xs ys = refl

-- a text with one byte more
pub without_last : (front : List ℕ) (last : ℕ) → without_lf (front ++ last ∷ []) ≡ cond (eqb last 10) front (front ++ last ∷ [])
without_last [] last = refl
without_last (b ∷ []) last = onto_cond (eqb last 10) b [] (last ∷ [])
without_last (b ∷ next ∷ front) last = ap (λ bs. b ∷ bs) (without_last (next ∷ front) last) ∙ onto_cond (eqb last 10) b (next ∷ front) ((next ∷ front) ++ last ∷ [])

more_bytes : (b c : ℕ) (t : List ℕ) → without_lf (b ∷ take_through 10 (c ∷ t)) ≡ b ∷ without_lf (take_through 10 (c ∷ t))
more_bytes b c t =
    elim (eqb c 10) as (λ e. without_lf (b ∷ cond e (c ∷ []) (c ∷ take_through 10 t)) ≡ b ∷ without_lf (cond e (c ∷ []) (c ∷ take_through 10 t))) [
      | true ↦ refl
      | false ↦ refl
    ]

one_byte : (b : ℕ) (e : Bool) → eqb b 10 ≡ e → without_lf (b ∷ []) ≡ cond e [] (b ∷ [])
one_byte b e is = ap (λ t. cond t [] (b ∷ [])) is

-- the first line of a text, and the others
first_line : (b : ℕ) (t : List ℕ) → lines_of (b ∷ t) ≡ without_lf (take_through 10 (b ∷ t)) ∷ lines_of (drop_through 10 (b ∷ t))
first_line b [] =
    (elim (eqb b 10) as (λ e. eqb b 10 ≡ e → cond e ([] ∷ []) ((b ∷ []) ∷ []) ≡ without_lf (cond e (b ∷ []) (b ∷ [])) ∷ lines_of (cond e [] [])) [
      | true ↦ λ is. ap (λ l. l ∷ []) (sym (one_byte b true is))
      | false ↦ λ is. ap (λ l. l ∷ []) (sym (one_byte b false is))
    ]) refl
first_line b (c ∷ t) =
    (elim (eqb b 10) as (λ e. eqb b 10 ≡ e → cond e ([] ∷ lines_of (c ∷ t)) (onto_first b (lines_of (c ∷ t))) ≡ without_lf (cond e (b ∷ []) (b ∷ take_through 10 (c ∷ t))) ∷ lines_of (cond e (c ∷ t) (drop_through 10 (c ∷ t)))) [
      | true ↦ λ is. ap (λ l. l ∷ lines_of (c ∷ t)) (sym (one_byte b true is))
      | false ↦ λ is. ap (onto_first b) (first_line c t) ∙ ap (λ l. l ∷ lines_of (drop_through 10 (c ∷ t))) (sym (more_bytes b c t))
    ]) refl

-- a line was read
pub line_read : (known known2 : Option (List ℕ)) (old new : List ℕ) (count : ℕ) → old ≡ [] → IfSome known (λ xs. new ≡ old ++ take_through 10 xs) → DropsThrough known known2 10 → length new ≡ length old + count → (count ≡ 0 → ⊥) → ReadsLine known known2 new true
line_read None known2 old new count empty read left counted some = tt
line_read (Some []) known2 old new count empty read left counted some = absurd (some (omega (arith, counted, ap length (read ∙ append-nil old))))
line_read (Some (b ∷ t)) known2 old new count empty read left counted some = (
  drop_through 10 (b ∷ t),
  left,
  first_line b t ∙ ap (λ bs. without_lf bs ∷ lines_of (drop_through 10 (b ∷ t))) (sym (read ∙ ap (λ bs. bs ++ take_through 10 (b ∷ t)) empty)),
)

-- no line was left
pub none_read : (known known2 : Option (List ℕ)) (new : List ℕ) → IsAtEnd known → ReadsLine known known2 new false
none_read None known2 new ends = tt
none_read (Some text) known2 new ends = ap lines_of ends
