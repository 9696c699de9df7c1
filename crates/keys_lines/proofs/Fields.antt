-- Fields of a line that is read in pieces.
use Rattle.std.proofs.Common.{◌≡◌, ℕ, zero, suc, ◌+◌, ◌-◌, eqb, cond, Bool, true, false, List, [], ◌∷◌, ◌++◌, ◌<◌, length, get_or, refl, sym, ap, ◌∙◌, arith, inl, inr}
use Rattle.std.specs.Prelude.{min, ◌⊎◌}
use Rattle.std.specs.List.{onto_first}
use Rattle.std.proofs.lemmas.Bool.{ne_eqb, eq-eqb}
use Rattle.std.proofs.lemmas.Bool.Decides.{nat_tests}
use Rattle.keys_lines.specs.Lines.{Lacks}
use Rattle.keys_lines.specs.Keys.{fields_of, key_of}
use Rattle.keys_lines.specs.Open.{passed_of}
use Rattle.keys_lines.specs.declared.key.Key.TheVariants.{Field}

-- a piece at the end of the last field
abbrev onto_last : (piece : List ℕ) → List (List ℕ) → List (List ℕ)
onto_last piece [] = piece ∷ []
onto_last piece (f ∷ []) = (f ++ piece) ∷ []
onto_last piece (f ∷ g ∷ fs) = f ∷ onto_last piece (g ∷ fs)

length-onto_last : (piece : List ℕ) (f : List ℕ) (fs : List (List ℕ)) → length (onto_last piece (f ∷ fs)) ≡ length (f ∷ fs)
length-onto_last piece f [] = refl
length-onto_last piece f (g ∷ fs) = ap suc (length-onto_last piece g fs)

get_last : (piece : List ℕ) (f : List ℕ) (fs : List (List ℕ)) → get_or (onto_last piece (f ∷ fs)) (length fs) [] ≡ get_or (f ∷ fs) (length fs) [] ++ piece
get_last piece f [] = refl
get_last piece f (g ∷ fs) = get_last piece g fs

get_other : (piece : List ℕ) (f : List ℕ) (fs : List (List ℕ)) (k : ℕ) → (k ≡ length fs → ⊥) → get_or (onto_last piece (f ∷ fs)) k [] ≡ get_or (f ∷ fs) k []
get_other piece f [] zero ne = absurd (ne refl)
get_other piece f [] (suc k) ne = refl
get_other piece f (g ∷ fs) zero ne = refl
get_other piece f (g ∷ fs) (suc k) ne = get_other piece g fs k (λ e. ne (ap suc e))

get_snoc : (fs : List (List ℕ)) (k : ℕ) → get_or (fs ++ [] ∷ []) k [] ≡ get_or fs k []
get_snoc [] zero = refl
get_snoc [] (suc k) = refl
get_snoc (f ∷ fs) zero = refl
get_snoc (f ∷ fs) (suc k) = get_snoc fs k

length-snoc : (fs : List (List ℕ)) → length (fs ++ [] ∷ []) ≡ suc (length fs)
length-snoc [] = refl
length-snoc (f ∷ fs) = ap suc (length-snoc fs)

lacks-rest : (c b : ℕ) (bs : List ℕ) → Lacks c (b ∷ bs) → Lacks c bs
lacks-rest c b bs h i lt = h (suc i) (omega arith)

first_not : (c b : ℕ) (bs : List ℕ) → Lacks c (b ∷ bs) → eqb b c ≡ false
first_not c b bs h = ne_eqb b c (h 0 (omega arith))

-- at least one field
data Nonempty : List (List ℕ) → Type 0 where
  some : (f : List ℕ) (fs : List (List ℕ)) → Nonempty (f ∷ fs)

module _ (c : ℕ) where
  more_fields : (t : Bool) (b : ℕ) (fs : List (List ℕ)) → Nonempty fs → Nonempty (cond t ([] ∷ fs) (onto_first b fs))
  more_fields true b fs n = some [] fs
  more_fields false b _ (some f fs) = some (b ∷ f) fs

  some_field : (line : List ℕ) → Nonempty (fields_of c line)
  some_field [] = some [] []
  some_field (b ∷ line) = more_fields (eqb b c) b (fields_of c line) (some_field line)

  two_step : (t : Bool) (b : ℕ) (fs : List (List ℕ)) → Nonempty fs → (length fs ≡ 1 → ⊥) → length (cond t ([] ∷ fs) (onto_first b fs)) ≡ 1 → ⊥
  two_step true b _ (some f fs) many e = omega (arith, e)
  two_step false b _ (some f fs) many e = many e

  two_now : (fs : List (List ℕ)) → Nonempty fs → length ([] ∷ fs) ≡ 1 → ⊥
  two_now _ (some f fs) e = omega (arith, e)

  -- with a separator there are two fields
  pub has_two : (line : List ℕ) (n : ℕ) → n < length line → get_or line n 0 ≡ c → length (fields_of c line) ≡ 1 → ⊥
  has_two [] n lt is e = absurd (omega (arith, lt))
  has_two (b ∷ line) zero lt is e = two_now (fields_of c line) (some_field line) (sym (ap (λ t. length (cond t ([] ∷ fields_of c line) (onto_first b (fields_of c line)))) (eq-eqb b c is)) ∙ e)
  has_two (b ∷ line) (suc n) lt is e = two_step (eqb b c) b (fields_of c line) (some_field line) (has_two line n (omega (arith, lt)) is) e

  -- without a separator there is one field
  pub one_field : (piece : List ℕ) → Lacks c piece → fields_of c piece ≡ piece ∷ []
  one_field [] h = refl
  one_field (b ∷ bs) h = rw (first_not c b bs h) (ap (onto_first b) (one_field bs (lacks-rest c b bs h)))

  -- a field that a separator ends is the first
  pub ended_field : (piece rest : List ℕ) → Lacks c piece → fields_of c (piece ++ c ∷ rest) ≡ piece ∷ fields_of c rest
  ended_field [] rest h = rw (eq-eqb c c refl) refl
  ended_field (b ∷ bs) rest h = rw (first_not c b bs h) (ap (onto_first b) (ended_field bs rest (lacks-rest c b bs h)))

  piece_step : (t : Bool) (b : ℕ) (piece : List ℕ) (fs : List (List ℕ)) → Nonempty fs → cond t ([] ∷ onto_last piece fs) (onto_first b (onto_last piece fs)) ≡ onto_last piece (cond t ([] ∷ fs) (onto_first b fs))
  piece_step true b piece _ (some f fs) = refl
  piece_step false b piece _ (some f []) = refl
  piece_step false b piece _ (some f (g ∷ fs)) = refl

  fields-piece : (front piece : List ℕ) → Lacks c piece → fields_of c (front ++ piece) ≡ onto_last piece (fields_of c front)
  fields-piece [] piece h = one_field piece h
  fields-piece (b ∷ front) piece h =
      ap (λ fs. cond (eqb b c) ([] ∷ fs) (onto_first b fs)) (fields-piece front piece h) ∙ piece_step (eqb b c) b piece (fields_of c front) (some_field front)

  next_step : (t : Bool) (b : ℕ) (fs : List (List ℕ)) → Nonempty fs → cond t ([] ∷ (fs ++ [] ∷ [])) (onto_first b (fs ++ [] ∷ [])) ≡ cond t ([] ∷ fs) (onto_first b fs) ++ [] ∷ []
  next_step true b fs n = refl
  next_step false b _ (some f fs) = refl

  fields-next : (front : List ℕ) → fields_of c (front ++ c ∷ []) ≡ fields_of c front ++ [] ∷ []
  fields-next [] = rw (eq-eqb c c refl) refl
  fields-next (b ∷ front) = ap (λ fs. cond (eqb b c) ([] ∷ fs) (onto_first b fs)) (fields-next front) ∙ next_step (eqb b c) b (fields_of c front) (some_field front)

  one_step : (t : Bool) (b : ℕ) (line : List ℕ) (fs : List (List ℕ)) → Nonempty fs → (length fs ≡ 1 → fs ≡ line ∷ []) → length (cond t ([] ∷ fs) (onto_first b fs)) ≡ 1 → cond t ([] ∷ fs) (onto_first b fs) ≡ (b ∷ line) ∷ []
  one_step true b line _ (some f fs) one e = absurd (omega arith)
  one_step false b line _ (some f fs) one e = ap (onto_first b) (one e)

  -- one field is the line
  one_whole : (line : List ℕ) → length (fields_of c line) ≡ 1 → fields_of c line ≡ line ∷ []
  one_whole [] e = refl
  one_whole (b ∷ line) e = one_step (eqb b c) b line (fields_of c line) (some_field line) (one_whole line) e

  module _ (before : ℕ) where
    abbrev key : List ℕ → List (List ℕ) → List ℕ
    key line fs = cond (eqb (length fs) 1) line (get_or fs before [])

    abbrev passed : List (List ℕ) → ℕ
    passed fs = min (length fs - 1) (before + 1)

    at_field : (n : ℕ) → (min (suc (suc n) - 1) (before + 1) ≡ 0) ⊎ (min (suc (suc n) - 1) (before + 1) ≡ before) → before ≡ suc n
    at_field n (inl e) = absurd (grind (arith, nat_tests))
    at_field n (inr e) = grind (arith, nat_tests)

    off_field : (n : ℕ) → (min (suc (suc n) - 1) (before + 1) ≡ before → ⊥) → before ≡ suc n → ⊥
    off_field n not_it e = not_it (grind (arith, nat_tests))

    more_than_one : (line : List ℕ) (fs : List (List ℕ)) (n : ℕ) → length fs ≡ suc (suc n) → key line fs ≡ get_or fs before []
    more_than_one line fs n e = ap (λ t. cond t line (get_or fs before [])) (ne_eqb (length fs) 1 (λ one. omega (arith, e, one)))

    put_fields : (line piece : List ℕ) (fs : List (List ℕ)) → Nonempty fs → (passed fs ≡ 0) ⊎ (passed fs ≡ before) → key (line ++ piece) (onto_last piece fs) ≡ key line fs ++ piece
    put_fields line piece _ (some f []) wanted = refl
    put_fields line piece _ (some f (g ∷ fs)) wanted =
        more_than_one (line ++ piece) (onto_last piece (f ∷ g ∷ fs)) (length fs) (length-onto_last piece f (g ∷ fs))
        ∙ ap (λ k. get_or (onto_last piece (f ∷ g ∷ fs)) k []) (at_field (length fs) wanted) ∙ get_last piece f (g ∷ fs)
        ∙ ap (λ k. get_or (f ∷ g ∷ fs) k [] ++ piece) (sym (at_field (length fs) wanted))
        ∙ ap (λ field. field ++ piece) (sym (more_than_one line (f ∷ g ∷ fs) (length fs) refl))

    skip_fields : (line piece : List ℕ) (fs : List (List ℕ)) → Nonempty fs → (passed fs ≡ 0 → ⊥) → (passed fs ≡ before → ⊥) → key (line ++ piece) (onto_last piece fs) ≡ key line fs
    skip_fields line piece _ (some f []) not_first not_it = absurd (not_first (grind (arith, nat_tests)))
    skip_fields line piece _ (some f (g ∷ fs)) not_first not_it =
        more_than_one (line ++ piece) (onto_last piece (f ∷ g ∷ fs)) (length fs) (length-onto_last piece f (g ∷ fs))
        ∙ get_other piece f (g ∷ fs) before (off_field (length fs) not_it)
        ∙ sym (more_than_one line (f ∷ g ∷ fs) (length fs) refl)

    -- what a piece of a field does to the key and to the count
    pub key_put : (front piece : List ℕ) → Lacks c piece → (passed_of (Field before c) front ≡ 0) ⊎ (passed_of (Field before c) front ≡ before) → key_of (Field before c) (front ++ piece) ≡ key_of (Field before c) front ++ piece
    key_put front piece lacks wanted = ap (key (front ++ piece)) (fields-piece front piece lacks) ∙ put_fields front piece (fields_of c front) (some_field front) wanted

    -- a piece of another field than the key leaves the key
    pub key_skip : (front piece : List ℕ) → Lacks c piece → (passed_of (Field before c) front ≡ 0 → ⊥) → (passed_of (Field before c) front ≡ before → ⊥) → key_of (Field before c) (front ++ piece) ≡ key_of (Field before c) front
    key_skip front piece lacks not_first not_it = ap (key (front ++ piece)) (fields-piece front piece lacks) ∙ skip_fields front piece (fields_of c front) (some_field front) not_first not_it

    put_passed : (piece : List ℕ) (fs : List (List ℕ)) → Nonempty fs → passed (onto_last piece fs) ≡ passed fs
    put_passed piece _ (some f fs) = ap (λ n. min (n - 1) (before + 1)) (length-onto_last piece f fs)

    -- a piece of a field leaves the count of separators
    pub passed_put : (front piece : List ℕ) → Lacks c piece → passed_of (Field before c) (front ++ piece) ≡ passed_of (Field before c) front
    passed_put front piece lacks = ap passed (fields-piece front piece lacks) ∙ put_passed piece (fields_of c front) (some_field front)

    -- what a separator does
    nothing_after : (f : List ℕ) (k : ℕ) → (k ≡ 0 → ⊥) → get_or (f ∷ [] ∷ []) k [] ≡ []
    nothing_after f zero some_before = absurd (some_before refl)
    nothing_after f (suc zero) some_before = refl
    nothing_after f (suc (suc k)) some_before = refl

    not_none : (n : ℕ) → min (suc (suc n) - 1) (before + 1) ≡ 0 → ⊥
    not_none n e = grind (arith, nat_tests)

    reset_fields : (line : List ℕ) (fs : List (List ℕ)) → Nonempty fs → passed fs ≡ 0 → (before ≡ 0 → ⊥) → key (line ++ c ∷ []) (fs ++ [] ∷ []) ≡ []
    reset_fields line _ (some f []) first some_before = nothing_after f before some_before
    reset_fields line _ (some f (g ∷ fs)) first some_before = absurd (not_none (length fs) first)

    -- the first separator empties the key, if a later field is the key
    pub key_reset : (front : List ℕ) → passed_of (Field before c) front ≡ 0 → (before ≡ 0 → ⊥) → key_of (Field before c) (front ++ c ∷ []) ≡ []
    key_reset front first some_before = ap (key (front ++ c ∷ [])) (fields-next front) ∙ reset_fields front (fields_of c front) (some_field front) first some_before

    keep_fields : (line : List ℕ) (fs : List (List ℕ)) → Nonempty fs → (length fs ≡ 1 → fs ≡ line ∷ []) → (passed fs ≡ 0 → before ≡ 0) → key (line ++ c ∷ []) (fs ++ [] ∷ []) ≡ key line fs
    keep_fields line _ (some f []) one first =
        ap (λ k. get_or (f ∷ [] ∷ []) k []) (first (grind (arith, nat_tests))) ∙ ap (λ gs. get_or gs 0 []) (one refl)
    keep_fields line _ (some f (g ∷ fs)) one first =
        more_than_one (line ++ c ∷ []) ((f ∷ g ∷ fs) ++ [] ∷ []) (suc (length fs)) (length-snoc (f ∷ g ∷ fs)) ∙ get_snoc (f ∷ g ∷ fs) before
        ∙ sym (more_than_one line (f ∷ g ∷ fs) (length fs) refl)

    -- any other separator leaves the key
    pub key_keep : (front : List ℕ) → (passed_of (Field before c) front ≡ 0 → before ≡ 0) → key_of (Field before c) (front ++ c ∷ []) ≡ key_of (Field before c) front
    key_keep front first = ap (key (front ++ c ∷ [])) (fields-next front) ∙ keep_fields front (fields_of c front) (some_field front) (one_whole front) first

    one_more : (n : ℕ) → min (suc (suc n) - 1) (before + 1) ≡ min (min (suc n - 1) (before + 1) + 1) (before + 1)
    one_more n = grind (arith, nat_tests)

    pass_passed : (fs : List (List ℕ)) → Nonempty fs → passed (fs ++ [] ∷ []) ≡ min (passed fs + 1) (before + 1)
    pass_passed _ (some f fs) = ap (λ n. min (n - 1) (before + 1)) (length-snoc (f ∷ fs)) ∙ one_more (length fs)

    -- a separator is counted, up to the one behind the key
    pub passed_pass : (front : List ℕ) → passed_of (Field before c) (front ++ c ∷ []) ≡ min (passed_of (Field before c) front + 1) (before + 1)
    passed_pass front = ap passed (fields-next front) ∙ pass_passed (fields_of c front) (some_field front)
