-- Words that are chosen one after another.
use Rattle.std.proofs.Common.{◌≡◌, ℕ, ◌++◌, Bool, cond, List, [], ◌∷◌, length, ap, ap₂, sym, ◌∙◌, append-nil, arith}
use Rattle.std.proofs.lemmas.List.{append_assoc}
use Rattle.distinct_arguments.specs.Places.{is_chosen, next_place, chosen, last_place}
use Rattle.distinct_arguments.specs.declared.places.Place.{Place}

module _ (files : Bool) (place : Place) where
  -- a word that is appended if it is chosen
  pub pushed : (out new : List (List ℕ)) (next : Place) (word seen : List ℕ) (rest others total : List (List ℕ))
      → new ≡ out ++ cond (is_chosen files place seen) (seen ∷ []) [] → next ≡ next_place place seen → seen ≡ word → rest ≡ word ∷ others
      → out ++ chosen files place rest ≡ total → new ++ chosen files next others ≡ total
  pushed out new next word seen rest others total is after same parted all =
      ap₂ (λ (a b : List (List ℕ)). a ++ b) is (ap (λ (p : Place). chosen files p others) after)
      ∙ append_assoc out (cond (is_chosen files place seen) (seen ∷ []) []) (chosen files (next_place place seen) others)
      ∙ ap (λ (w : List ℕ). out ++ chosen files place (w ∷ others)) same
      ∙ ap (λ (ws : List (List ℕ)). out ++ chosen files place ws) (sym parted)
      ∙ all

  -- no word is left
  pub finished : (out rest total : List (List ℕ)) → length rest ≡ 0 → out ++ chosen files place rest ≡ total → out ≡ total
  finished out [] total none all = sym (append-nil out) ∙ all
  finished out (word ∷ rest) total none all = absurd (omega arith)

-- the place behind a word leads to the same last place
pub passed : (place next : Place) (word seen : List ℕ) (rest others : List (List ℕ)) (last : Place) → next ≡ next_place place seen → seen ≡ word → rest ≡ word ∷ others
    → last_place place rest ≡ last → last_place next others ≡ last
passed place next word seen rest others last after same parted all =
    ap (λ (p : Place). last_place p others) (after ∙ ap (next_place place) same) ∙ ap (last_place place) (sym parted) ∙ all

pub placed : (place : Place) (rest : List (List ℕ)) (last : Place) → length rest ≡ 0 → last_place place rest ≡ last → place ≡ last
placed place [] last none all = all
placed place (word ∷ rest) last none all = absurd (omega arith)
