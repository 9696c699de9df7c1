-- Operators that refuse some merges, where none was refused, as operators that refuse none.
use Rattle.std.proofs.Common.{◌≡◌, ℕ, Bool, true, false, cond, List, [], ◌∷◌, map, Option, Some, None, refl, sym, ap, ◌∙◌}
use Rattle.std.specs.Prelude.{◌||◌}
use Rattle.std.specs.Option.{option_map}
use Rattle.core_laws.specs.Folds.{Fold, Value, Refused, fold_key, fold_merges, unmarked_value}
use Rattle.core_laws.specs.KeysOfValues.{entries_of}
use Rattle.core_laws.specs.Operators.{unite, meet_next}
use Rattle.core_laws.specs.Values.{Sketch, Empty, NonEmpty, theta_of}
use Rattle.expression_evaluation.proofs.MappedOperators.{turned_value, unite-map, meet-map}

-- an entry, and whether a merge in it was refused
record Noted (X : Type 0) : Type 0 where
  pub entry : X
  pub refused : Bool

-- merges that are refused for some entries, and others that give the same where they aren't
module _ {X : Type 0} (key : X → ℕ) (merges plain : X → X → X) (refuses : X → X → Bool) (agree : (x y : X) → refuses x y ≡ false → merges x y ≡ plain x y) (first : (x y : X) → key (plain x y) ≡ key x) where
  abbrev noted_key : Noted X → ℕ
  noted_key z = key z.entry

  abbrev noted_merges : Noted X → Noted X → Noted X
  noted_merges z w = record { entry = plain z.entry w.entry; refused = z.refused || (w.refused || refuses z.entry w.entry) }

  abbrev new_noted : X → Noted X
  new_noted x = record { entry = x; refused = false }

  abbrev fold_of : Noted X → Fold X
  fold_of z = cond z.refused (Refused (key z.entry)) (Value z.entry)

  abbrev entry_of : Noted X → X
  entry_of z = z.entry

  fold_alike : (z : Noted X) → fold_key key (fold_of z) ≡ noted_key z
  fold_alike z = elim z.refused as (λ b. fold_key key (cond b (Refused (key z.entry)) (Value z.entry)) ≡ key z.entry) [ true ↦ refl | false ↦ refl ]

  fold_parts : (x y : X) (p q : Bool) → fold_merges key merges refuses (cond p (Refused (key x)) (Value x)) (cond q (Refused (key y)) (Value y)) ≡ cond (p || (q || refuses x y)) (Refused (key (plain x y))) (Value (plain x y))
  fold_parts x y true q = ap Refused (sym (first x y))
  fold_parts x y false true = ap Refused (sym (first x y))
  fold_parts x y false false =
      (elim (refuses x y) as (λ b. refuses x y ≡ b → cond b (Refused (key x)) (Value (merges x y)) ≡ cond b (Refused (key (plain x y))) (Value (plain x y))) [
        | true ↦ λ e. ap Refused (sym (first x y))
        | false ↦ λ e. ap Value (agree x y e)
      ]) refl

  fold_same : (z w : Noted X) → fold_merges key merges refuses (fold_of z) (fold_of w) ≡ fold_of (noted_merges z w)
  fold_same z w = fold_parts z.entry w.entry z.refused w.refused

  abbrev new_value : Sketch X → Sketch (Noted X)
  new_value v = turned_value new_noted v

  folds_new : (xs : List X) → map fold_of (map new_noted xs) ≡ map Value xs
  folds_new [] = refl
  folds_new (x ∷ xs) = ap (λ ys. Value x ∷ ys) (folds_new xs)

  entries_new : (xs : List X) → map entry_of (map new_noted xs) ≡ xs
  entries_new [] = refl
  entries_new (x ∷ xs) = ap (λ ys. x ∷ ys) (entries_new xs)

  value_folds : (v : Sketch X) → turned_value fold_of (new_value v) ≡ unmarked_value v
  value_folds Empty = refl
  value_folds (NonEmpty v) = ap (λ ys. NonEmpty (record { entries = ys; theta = v.theta })) (folds_new v.entries)

  value_entries : (v : Sketch X) → turned_value entry_of (new_value v) ≡ v
  value_entries Empty = refl
  value_entries (NonEmpty v) = ap (λ ys. NonEmpty (record { entries = ys; theta = v.theta })) (entries_new v.entries)

  one_unmarked : (x y : X) (b : Bool) → Value x ≡ cond b (Refused (key y)) (Value y) → x ≡ y
  one_unmarked x y true e = absurd (cc)
  one_unmarked x y false e = cc

  tail_same : {Y : Type 0} (x y : Y) (xs ys : List Y) → x ∷ xs ≡ y ∷ ys → xs ≡ ys
  tail_same x y xs ys e = cc

  head_same : {Y : Type 0} (x y : Y) (xs ys : List Y) → x ∷ xs ≡ y ∷ ys → x ≡ y
  head_same x y xs ys e = cc

  all_unmarked : (xs : List X) (zs : List (Noted X)) → map Value xs ≡ map fold_of zs → xs ≡ map entry_of zs
  all_unmarked [] [] e = refl
  all_unmarked [] (z ∷ zs) e = absurd (cc)
  all_unmarked (x ∷ xs) [] e = absurd (cc)
  all_unmarked (x ∷ xs) (z ∷ zs) e =
      let one : x ≡ z.entry = one_unmarked x z.entry z.refused (head_same (Value x) (fold_of z) (map Value xs) (map fold_of zs) e) in
      ap (λ y. y ∷ xs) one ∙ ap (λ ys. z.entry ∷ ys) (all_unmarked xs zs (tail_same (Value x) (fold_of z) (map Value xs) (map fold_of zs) e))

  value_unmarked : (v : Sketch X) (w : Sketch (Noted X)) → unmarked_value v ≡ turned_value fold_of w → v ≡ turned_value entry_of w
  value_unmarked Empty Empty e = refl
  value_unmarked Empty (NonEmpty w) e = absurd (cc)
  value_unmarked (NonEmpty v) Empty e = absurd (cc)
  value_unmarked (NonEmpty v) (NonEmpty w) e =
      let entries : map Value v.entries ≡ map fold_of w.entries = ap (λ u. entries_of u) e in
      let theta : v.theta ≡ w.theta = ap (λ u. theta_of u) e in
      (λ i. NonEmpty (record { entries = all_unmarked v.entries w.entries entries i; theta = theta i }))

  abbrev fk : Fold X → ℕ
  fk = fold_key key

  abbrev fm : Fold X → Fold X → Fold X
  fm = fold_merges key merges refuses

  -- a union in which no merge was refused
  pub united_plain : (k start : ℕ) (new old more : Sketch X) → unmarked_value new ≡ unite fk fm k start (unmarked_value old ∷ unmarked_value more ∷ []) → new ≡ unite key plain k start (old ∷ more ∷ [])
  united_plain k start new old more united =
      let z : Sketch (Noted X) = unite noted_key noted_merges k start (new_value old ∷ new_value more ∷ []) in
      let folds : unite fk fm k start (unmarked_value old ∷ unmarked_value more ∷ []) ≡ turned_value fold_of z =
      ap (λ v. unite fk fm k start (v ∷ unmarked_value more ∷ [])) (sym (value_folds old))
      ∙ ap (λ v. unite fk fm k start (turned_value fold_of (new_value old) ∷ v ∷ [])) (sym (value_folds more))
      ∙ unite-map fold_of noted_key fk fold_alike noted_merges fm fold_same k start (new_value old) (new_value more) in
      let entries : unite key plain k start (old ∷ more ∷ []) ≡ turned_value entry_of z =
      ap (λ v. unite key plain k start (v ∷ more ∷ [])) (sym (value_entries old))
      ∙ ap (λ v. unite key plain k start (turned_value entry_of (new_value old) ∷ v ∷ [])) (sym (value_entries more))
      ∙ unite-map entry_of noted_key key (λ w. refl) noted_merges plain (λ w u. refl) k start (new_value old) (new_value more) in
      value_unmarked new z (united ∙ folds) ∙ sym entries

  option_folds : (o : Option (Sketch X)) → option_map (turned_value fold_of) (option_map new_value o) ≡ option_map unmarked_value o
  option_folds None = refl
  option_folds (Some v) = ap Some (value_folds v)

  option_entries : (o : Option (Sketch X)) → option_map (turned_value entry_of) (option_map new_value o) ≡ o
  option_entries None = refl
  option_entries (Some v) = ap Some (value_entries v)

  some_same : {Y : Type 0} (x y : Y) → Some x ≡ Some y → x ≡ y
  some_same x y e = cc

  -- an intersection in which no merge was refused
  pub met_plain : (new old : Option (Sketch X)) (more : Sketch X) → option_map unmarked_value new ≡ Some (meet_next fk fm (option_map unmarked_value old) (unmarked_value more)) → new ≡ Some (meet_next key plain old more)
  met_plain None old more met = absurd (cc)
  met_plain (Some new) old more met =
      let z : Sketch (Noted X) = meet_next noted_key noted_merges (option_map new_value old) (new_value more) in
      let folds : meet_next fk fm (option_map unmarked_value old) (unmarked_value more) ≡ turned_value fold_of z =
      ap (λ o. meet_next fk fm o (unmarked_value more)) (sym (option_folds old))
      ∙ ap (λ v. meet_next fk fm (option_map (turned_value fold_of) (option_map new_value old)) v) (sym (value_folds more))
      ∙ meet-map fold_of noted_key fk fold_alike noted_merges fm fold_same (option_map new_value old) (new_value more) in
      let entries : meet_next key plain old more ≡ turned_value entry_of z =
      ap (λ o. meet_next key plain o more) (sym (option_entries old))
      ∙ ap (λ v. meet_next key plain (option_map (turned_value entry_of) (option_map new_value old)) v) (sym (value_entries more))
      ∙ meet-map entry_of noted_key key (λ w. refl) noted_merges plain (λ w u. refl) (option_map new_value old) (new_value more) in
      let one : unmarked_value new ≡ meet_next fk fm (option_map unmarked_value old) (unmarked_value more) = some_same (unmarked_value new) (meet_next fk fm (option_map unmarked_value old) (unmarked_value more)) met in
      ap Some (value_unmarked new z (one ∙ folds) ∙ sym entries)
