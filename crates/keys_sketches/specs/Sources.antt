-- Texts, one after another, each with its own reader.
use Rattle.std.specs.Prelude.{ℕ, ◌≡◌, ⊤, List, [], ◌∷◌, ◌++◌, Option, Some, None}
use Rattle.keys_lines.specs.Lines.{lines_of_all}
use Rattle.keys_lines.specs.declared.key.Hashing.{Hashing}
use Rattle.keys_sketches.specs.Keys.{LineState, with_lines}

-- the next source has the first text, and the others are left
pub record IsFirst {S : Type 0} (remaining : S → Option (List ℕ)) (texts : List (List ℕ)) (source : S) (left : Option (List (List ℕ))) : Type 0 where
  pub text : List ℕ
  pub texts_left : List (List ℕ)
  pub parted : texts ≡ text ∷ texts_left
  pub has : remaining source ≡ Some text
  pub leaves : left ≡ Some texts_left

-- the texts that are left after the next source, if they are known: there is no source only at the end
abbrev pub GivesNext : {S : Type 0} → (remaining : S → Option (List ℕ)) → (old new : Option (List (List ℕ))) → Option S → Type 0
GivesNext remaining None new source = ⊤
GivesNext remaining (Some texts) new None = texts ≡ []
GivesNext remaining (Some texts) new (Some source) = IsFirst remaining texts source new

-- inserting all old texts into the old state gives the same as inserting the texts that are left into the state now
abbrev pub LeadsTo : Hashing → (old : Option (List (List ℕ))) (s : LineState) (new : Option (List (List ℕ))) (t : LineState) → Type 0
LeadsTo hashing None s new t = ⊤
LeadsTo hashing (Some texts) s None t = ⊥
LeadsTo hashing (Some texts) s (Some left) t = with_lines hashing s (lines_of_all texts) ≡ with_lines hashing t (lines_of_all left)

-- this holds of the texts that were read, and the others are left
abbrev pub Continues : (old new : Option (List (List ℕ))) → (List (List ℕ) → Type 0) → Type 0
Continues None new P = ⊤
Continues (Some texts) None P = ⊥
Continues (Some texts) (Some left) P = (taken : List (List ℕ)) × (texts ≡ taken ++ left) × P taken
