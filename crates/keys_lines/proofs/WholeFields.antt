-- Fields of a whole line.
use Rattle.std.proofs.Common.{◌≡◌, ℕ, zero, suc, ◌+◌, ◌-◌, ◌<◌, eqb, cond, Bool, true, false, List, [], ◌∷◌, ◌++◌, length, get_or, refl, sym, ap, ◌∙◌, arith}
use Rattle.std.specs.List.{onto_first}
use Rattle.std.proofs.lemmas.Bool.{ne_eqb, eq-eqb}
use Rattle.keys_lines.specs.Lines.{Lacks}
use Rattle.keys_lines.specs.Keys.{fields_of, key_of}
use Rattle.keys_lines.specs.declared.key.Key.TheVariants.{Field}

first_not : (c b : ℕ) (bs : List ℕ) → Lacks c (b ∷ bs) → eqb b c ≡ false
first_not c b bs lacks = ne_eqb b c (lacks 0 (omega arith))

lacks-rest : (c b : ℕ) (bs : List ℕ) → Lacks c (b ∷ bs) → Lacks c bs
lacks-rest c b bs lacks i lt = lacks (suc i) (omega arith)

-- a text without a separator is one field
one_field : (c : ℕ) (text : List ℕ) → Lacks c text → fields_of c text ≡ text ∷ []
one_field c [] lacks = refl
one_field c (b ∷ bs) lacks = rw (first_not c b bs lacks) (ap (onto_first b) (one_field c bs (lacks-rest c b bs lacks)))

-- the field before the first separator, and those after it
first_field : (c : ℕ) (front others : List ℕ) → Lacks c front → fields_of c (front ++ c ∷ others) ≡ front ∷ fields_of c others
first_field c [] others lacks = rw (eq-eqb c c refl) refl
first_field c (b ∷ bs) others lacks = rw (first_not c b bs lacks) (ap (onto_first b) (first_field c bs others (lacks-rest c b bs lacks)))

-- there is at least one field
some_cond : (t : Bool) (b : ℕ) (fs : List (List ℕ)) → 0 < length fs → 0 < length (cond t ([] ∷ fs) (onto_first b fs))
some_cond true b fs some = omega arith
some_cond false b [] some = omega (arith, some)
some_cond false b (f ∷ fs) some = omega arith

some_field : (c : ℕ) (text : List ℕ) → 0 < length (fields_of c text)
some_field c [] = omega arith
some_field c (b ∷ text) = some_cond (eqb b c) b (fields_of c text) (some_field c text)

next_of : (f : List ℕ) (fs : List (List ℕ)) (n m : ℕ) → n ≡ suc m → get_or (f ∷ fs) n [] ≡ get_or fs m []
next_of f fs n m is = ap (λ k. get_or (f ∷ fs) k []) is

none_of : (m : ℕ) → get_or {A = List ℕ} [] m [] ≡ []
none_of zero = refl
none_of (suc m) = refl

module _ (c : ℕ) (found : List ℕ) (before passed : ℕ) where
  -- a field is passed
  pub field_passed : (rest front others : List ℕ) → rest ≡ front ++ c ∷ others → Lacks c front → passed < before → get_or (fields_of c rest) (before - passed) [] ≡ found → get_or (fields_of c others) (before - (passed + 1)) [] ≡ found
  field_passed rest front others parted lacks lt is =
      sym (next_of front (fields_of c others) (before - passed) (before - (passed + 1)) (omega (arith, lt)))
      ∙ ap (λ fs. get_or fs (before - passed) []) (sym (ap (fields_of c) parted ∙ first_field c front others lacks))
      ∙ is

  -- there are too few fields
  pub fields_end : (rest : List ℕ) → Lacks c rest → passed < before → get_or (fields_of c rest) (before - passed) [] ≡ found → [] ≡ found
  fields_end rest lacks lt is =
      sym (none_of (before - (passed + 1)))
      ∙ sym (next_of rest [] (before - passed) (before - (passed + 1)) (omega (arith, lt)))
      ∙ ap (λ fs. get_or fs (before - passed) []) (sym (one_field c rest lacks))
      ∙ is

  -- the field after those that were passed, with others behind it, or as the last
  pub field_before : (rest front others : List ℕ) → rest ≡ front ++ c ∷ others → Lacks c front → before - passed ≡ 0 → get_or (fields_of c rest) (before - passed) [] ≡ found → front ≡ found
  field_before rest front others parted lacks all is =
      sym (ap (λ fs. get_or fs 0 []) (ap (fields_of c) parted ∙ first_field c front others lacks))
      ∙ ap (λ n. get_or (fields_of c rest) n []) (sym all) ∙ is

  pub field_last : (rest : List ℕ) → Lacks c rest → before - passed ≡ 0 → get_or (fields_of c rest) (before - passed) [] ≡ found → rest ≡ found
  field_last rest lacks all is =
      sym (ap (λ fs. get_or fs 0 []) (one_field c rest lacks)) ∙ ap (λ n. get_or (fields_of c rest) n []) (sym all) ∙ is

-- the key of a line with a separator, and of one without
pub key_parted : (c before : ℕ) (line front others found : List ℕ) → line ≡ front ++ c ∷ others → Lacks c front → found ≡ get_or (fields_of c line) before [] → found ≡ key_of (Field before c) line
key_parted c before line front others found parted lacks is =
    let long : length (fields_of c line) ≡ length (front ∷ fields_of c others) = ap length (ap (fields_of c) parted ∙ first_field c front others lacks) in
    is ∙ sym (ap (λ b. cond b line (get_or (fields_of c line) before [])) (ne_eqb (length (fields_of c line)) 1 (λ one. omega (arith, one, long, some_field c others))))

pub key_whole : (c before : ℕ) (line : List ℕ) → Lacks c line → line ≡ key_of (Field before c) line
key_whole c before line lacks =
    sym (ap (λ b. cond b line (get_or (fields_of c line) before [])) (eq-eqb (length (fields_of c line)) 1 (ap length (one_field c line lacks))))

-- the first field of a line with a separator, and a later one
pub key_first : (c before : ℕ) (line front others : List ℕ) → line ≡ front ++ c ∷ others → Lacks c front → before ≡ 0 → front ≡ key_of (Field before c) line
key_first c before line front others parted lacks none =
    key_parted c before line front others front parted lacks
    (sym (ap (λ fs. get_or fs before []) (ap (fields_of c) parted ∙ first_field c front others lacks) ∙ ap (λ n. get_or (front ∷ fields_of c others) n []) none))

pub key_later : (c before : ℕ) (line front others found : List ℕ) → line ≡ front ++ c ∷ others → Lacks c front → (before ≡ 0 → ⊥) → found ≡ get_or (fields_of c others) (before - 1) [] → found ≡ key_of (Field before c) line
key_later c before line front others found parted lacks some is =
    key_parted c before line front others found parted lacks
    (is ∙ sym (ap (λ fs. get_or fs before []) (ap (fields_of c) parted ∙ first_field c front others lacks) ∙ next_of front (fields_of c others) before (before - 1) (omega (arith, some))))
