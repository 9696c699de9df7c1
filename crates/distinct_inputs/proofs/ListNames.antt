-- Names in lists, cut at NUL bytes.
use Rattle.std.proofs.Common.{map, min, ◌≡◌, ◌+◌, ◌-◌, ◌^◌, ℕ, suc, false, eqb, List, [], ◌∷◌, ◌++◌, length, refl, sym, ap, subst, ◌∙◌, append-nil, arith}
use Rattle.std.specs.List.{onto_first}
use Rattle.std.proofs.lemmas.Bool.{ne_eqb}
use Rattle.keys_lines.specs.Lines.{Lacks}
use Rattle.std.specs.List.{AllByRecursion}
use Rattle.std.specs.Prelude.{String, string_bytes}
use Rattle.std.proofs.lemmas.List.{length-map}
use Rattle.distinct_inputs.specs.Lists.{names_of, names_in, IsName, IsNotPut, IsListError}
use Rattle.distinct_inputs.specs.declared.lists.ListError.{ListError}
use Rattle.distinct_inputs.specs.declared.lists.ListError.TheVariants.{Name, Memory}

lacks-rest : (b : ℕ) (bs : List ℕ) → Lacks 0 (b ∷ bs) → Lacks 0 bs
lacks-rest b bs h i lt = h (suc i) (omega arith)

first_not : (b : ℕ) (bs : List ℕ) → Lacks 0 (b ∷ bs) → eqb b 0 ≡ false
first_not b bs h = ne_eqb b 0 (h 0 (omega arith))

-- a name ends
pub name_ended : (name rest : List ℕ) → Lacks 0 name → names_in (name ++ 0 ∷ rest) ≡ name ∷ names_in rest
name_ended [] rest h = refl
name_ended (b ∷ bs) rest h = rw (first_not b bs h) (ap (onto_first b) (name_ended bs rest (lacks-rest b bs h)))

-- a last name without a NUL byte behind it
pub last_name : (b : ℕ) (bs : List ℕ) → Lacks 0 (b ∷ bs) → names_in (b ∷ bs) ≡ (b ∷ bs) ∷ []
last_name b [] h = rw (first_not b [] h) refl
last_name b (c ∷ bs) h = rw (first_not b (c ∷ bs) h) (ap (onto_first b) (last_name c bs (lacks-rest b (c ∷ bs) h)))

-- at the end nothing is left, or a last name
pub all_named : (names : List (List ℕ)) (rest all : List ℕ) → names_in all ≡ names ++ names_in rest → length rest ≡ 0 → names ≡ names_in all
all_named names [] all so_far none = sym (so_far ∙ append-nil names)
all_named names (b ∷ bs) all so_far none = absurd (omega arith)

pub last_named : (names new : List (List ℕ)) (rest all : List ℕ) → names_in all ≡ names ++ names_in rest → Lacks 0 rest → (length rest ≡ 0 → ⊥) → new ≡ names ++ rest ∷ [] → new ≡ names_in all
last_named names new [] all so_far lacks some put = absurd (some refl)
last_named names new (b ∷ bs) all so_far lacks some put = put ∙ sym (so_far ∙ ap (λ ns. names ++ ns) (last_name b bs lacks))

-- no names
pub nothing_named : {T : Type 0} (f : T → List ℕ) (xs : List T) → length xs ≡ 0 → map f xs ≡ []
nothing_named f [] none = refl
nothing_named f (x ∷ xs) none = absurd (omega arith)

-- one name more
named_behind : (names : List (List ℕ)) (name : List ℕ) → AllByRecursion IsName names → IsName name → AllByRecursion IsName (names ++ name ∷ [])
named_behind [] name all is = (is, tt)
named_behind (first ∷ names) name all is = (all.0, named_behind names name all.1 is)

pub named_more : (names : List (List ℕ)) (name : List ℕ) (new : List (List ℕ)) → AllByRecursion IsName names → IsName name → new ≡ names ++ name ∷ [] → AllByRecursion IsName new
named_more names name new all is put = subst (AllByRecursion IsName) (sym put) (named_behind names name all is)

-- behind names a text that can't be one
pub list_error : {A : Type 0} (names : List (String A)) (text : List ℕ) (back all : List (List ℕ)) (u : ListError) → all ≡ names_of names ++ text ∷ back →
    AllByRecursion IsName (names_of names) → IsNotPut (length names) text u → IsListError all u
list_error names text back all Memory parted named not_put = tt
list_error names text back all (Name number) parted named not_put = record {
  front = names_of names;
  text = text;
  back = back;
  parted = parted;
  named = named;
  unnamed = not_put.0;
  numbered = not_put.1 ∙ ap (λ n. min (n + 1) (2 ^ 64 - 1)) (sym (length-map names string_bytes));
}

-- what is left in a list is its last name, if it is something
pub rest_named : (rest : List ℕ) → Lacks 0 rest → (length rest ≡ 0 → ⊥) → names_in rest ≡ rest ∷ []
rest_named [] lacks some = absurd (some refl)
rest_named (b ∷ bs) lacks some = last_name b bs lacks
