-- Texts that are appended one by one, with a byte between two.
use Rattle.std.proofs.Common.{◌≡◌, ℕ, zero, suc, ◌+◌, ◌<◌, ◌≤◌, cond, eqb, List, [], ◌∷◌, ◌++◌, length, map, drop, get_or, refl, sym, ap, ◌∙◌, arith, append_assoc, append-nil}
use Rattle.std.proofs.Math.Seq.{drop-cons}
use Rattle.std.proofs.lemmas.Bool.{ne_eqb}
use Rattle.std.proofs.lemmas.List.{drop_all}
use Rattle.keys_fields.specs.Lines.{joined}

-- what is behind the first of joined texts
abbrev pub behind : (between : ℕ) → List (List ℕ) → List ℕ
behind between [] = []
behind between (text ∷ texts) = between ∷ joined between (text ∷ texts)

pub first_joined : (between : ℕ) (text : List ℕ) (texts : List (List ℕ)) → joined between (text ∷ texts) ≡ text ++ behind between texts
first_joined between text [] = sym (append-nil text)
first_joined between text (next ∷ texts) = refl

-- what is left of joined texts after so many
abbrev pub left_after : (between count : ℕ) → List (List ℕ) → List ℕ
left_after between zero texts = joined between texts
left_after between (suc count) texts = behind between texts

pub left_first : (between : ℕ) (f : ℕ → List ℕ) (numbers : List ℕ) → 0 < length numbers → joined between (map f numbers) ≡ f (get_or numbers 0 0) ++ behind between (map f (drop 1 numbers))
left_first between f [] some = absurd (omega arith)
left_first between f (number ∷ numbers) some = first_joined between (f number) (map f numbers)

pub left_next : (between : ℕ) (f : ℕ → List ℕ) (numbers : List ℕ) (i : ℕ) → i < length numbers
    → behind between (map f (drop i numbers)) ≡ between ∷ (f (get_or numbers i 0) ++ behind between (map f (drop (i + 1) numbers)))
left_next between f numbers i within =
    let parted : drop i numbers ≡ get_or numbers i 0 ∷ drop (i + 1) numbers = drop-cons numbers i 0 within ∙ ap (λ (n : ℕ). get_or numbers i 0 ∷ drop n numbers) {x = suc i} {y = i + 1} (omega arith) in
    ap (λ ns. behind between (map f ns)) parted ∙ ap (λ bytes. between ∷ bytes) (first_joined between (f (get_or numbers i 0)) (map f (drop (i + 1) numbers)))

-- What was appended after so many of the texts: nothing, or all but what is behind them.
abbrev pub IsPut : (between : ℕ) (f : ℕ → List ℕ) (numbers old now : List ℕ) (i : ℕ) → Type 0
IsPut between f numbers old now i =
    (i ≡ 0 → now ≡ old) × (0 < i → old ++ joined between (map f numbers) ≡ now ++ behind between (map f (drop i numbers)))

-- one text more is appended
module _ (between : ℕ) (f : ℕ → List ℕ) (numbers old now next : List ℕ) where
  pub put_next : (i : ℕ) → i < length numbers → IsPut between f numbers old now i
      → next ≡ now ++ cond (eqb i 0) (f (get_or numbers i 0)) (between ∷ f (get_or numbers i 0)) → IsPut between f numbers old next (i + 1)
  put_next zero within put is = (
    λ e. absurd (omega (arith, e)),
    λ _.
        ap (λ bytes. bytes ++ joined between (map f numbers)) (sym (put.0 refl))
        ∙ ap (λ bytes. now ++ bytes) (left_first between f numbers within)
        ∙ sym (append_assoc now (f (get_or numbers 0 0)) (behind between (map f (drop 1 numbers))))
        ∙ ap (λ bytes. bytes ++ behind between (map f (drop 1 numbers))) (sym is),
  )
  put_next (suc i) within put is = (
    λ e. absurd (omega (arith, e)),
    λ _.
        put.1 (omega arith)
        ∙ ap (λ bytes. now ++ bytes) (left_next between f numbers (suc i) within)
        ∙ sym (append_assoc now (between ∷ f (get_or numbers (suc i) 0)) (behind between (map f (drop (suc i + 1) numbers))))
        ∙ ap (λ t. (now ++ cond t (f (get_or numbers (suc i) 0)) (between ∷ f (get_or numbers (suc i) 0))) ++ behind between (map f (drop (suc i + 1) numbers))) (sym (ne_eqb (suc i) 0 (λ e. omega (arith, e))))
        ∙ ap (λ bytes. bytes ++ behind between (map f (drop (suc i + 1) numbers))) (sym is),
  )

-- all texts are appended
pub all_put : (between : ℕ) (f : ℕ → List ℕ) (numbers old now : List ℕ) (i : ℕ) → length numbers ≤ i → IsPut between f numbers old now i → now ≡ old ++ joined between (map f numbers)
all_put between f [] old now zero ended put = put.0 refl ∙ sym (append-nil old)
all_put between f (number ∷ numbers) old now zero ended put = absurd (omega (arith, ended))
all_put between f numbers old now (suc i) ended put =
    sym (append-nil now) ∙ ap (λ rest. now ++ behind between (map f rest)) (sym (drop_all (suc i) numbers ended)) ∙ sym (put.1 (omega arith))
