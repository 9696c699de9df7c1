-- Lists of names of files.
use Rattle.std.specs.Prelude.{ℕ, ◌≡◌, ◌≢◌, ◌==◌, ◌+◌, ◌-◌, ◌^◌, ◌&&◌, not, min, ⊤, Bool, List, [], ◌∷◌, ◌++◌}
use Rattle.std.specs.Prelude.{length, if◌then◌else◌, map, String, Vec, string_bytes, IsUtf8}
use Rattle.std.specs.List.{onto_first, list_any, AllByRecursion}
use Rattle.distinct_inputs.specs.declared.lists.ListError.{ListError}
use Rattle.distinct_inputs.specs.declared.lists.ListError.TheVariants.{Name, Memory}

-- the names of files, and the texts of files in memory
abbrev pub names_of : {A : Type 0} → List (String A) → List (List ℕ)
names_of names = map (λ name. string_bytes name) names

abbrev pub texts_of : {A : Type 0} → List (Vec ℕ A) → List (List ℕ)
texts_of texts = map (λ text. text.items) texts

-- the names in a list: a NUL byte ends each, which the last may lack
abbrev pub names_in : List ℕ → List (List ℕ)
names_in [] = []
names_in (byte ∷ list) = if byte == 0 then [] ∷ names_in list else onto_first byte (names_in list)

-- whether a list has lines, each of which an LF (10) ends, and no NUL byte: its names would be read as one
abbrev pub are_lines : List ℕ → Bool
are_lines list = not (list_any (λ byte. byte == 0) list) && list_any (λ byte. byte == 10) list

-- a text can be the name of a file: it isn't empty, and is UTF-8
abbrev pub IsName : List ℕ → Type 0
IsName text = (text ≢ []) × IsUtf8 text

-- a text after this many others was not put into a list: memory was refused, or it can't be a name
abbrev pub IsNotPut : (count : ℕ) → List ℕ → ListError → Type 0
IsNotPut count text Memory = ⊤
IsNotPut count text (Name number) = (IsName text → ⊥) × (number ≡ min (count + 1) (2 ^ 64 - 1))

-- the first of these texts that can't be a name has this number, from 1
pub record IsFirstUnnamed (number : ℕ) (texts : List (List ℕ)) : Type 0 where
  pub front : List (List ℕ)
  pub text : List ℕ
  pub back : List (List ℕ)
  pub parted : texts ≡ front ++ text ∷ back
  pub named : AllByRecursion IsName front
  pub unnamed : IsName text → ⊥
  pub numbered : number ≡ min (length front + 1) (2 ^ 64 - 1)

-- texts are not read as names: memory was refused, or one can't be a name, of which the first is reported
abbrev pub IsListError : (texts : List (List ℕ)) → ListError → Type 0
IsListError texts Memory = ⊤
IsListError texts (Name number) = IsFirstUnnamed number texts
