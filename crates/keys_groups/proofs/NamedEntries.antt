-- Entries with names, no two of which are the same: found by their names, changed, and in another order.
use Rattle.std.proofs.Common.{ℕ, zero, suc, ◌≡◌, ◌<◌, arith, length, Bool, true, false, cond, List, [], ◌∷◌, ◌++◌, Option, Some, None, Vec, refl, sym, ap, ◌∙◌, subst, get_or}
use Rattle.std.specs.Prelude.{◌||◌, slice_get, slice_set}
use Rattle.std.specs.Option.{option_map}
use Rattle.std.specs.List.{AllByRecursion, IsDistinct, list_any}
use Rattle.std.specs.Ordering.{nat_cmp, is_eq}
use Rattle.std.specs.Str.{bytes_eq}
use Rattle.std.specs.Cmp.Lexicographic.{slice_cmp, bytes_decides, nat_list_eq_equiv}
use Rattle.std.proofs.lemmas.Option.{same_Some, none-some, slice_get_read, slice_get_within}
use Rattle.std.proofs.lemmas.List.{length-map}
use Rattle.std.proofs.lemmas.Map.Text.{is_eq-slice_cmp}
use Rattle.std.proofs.lemmas.Map.Keys.{IsDistinct-push}
use Rattle.keys_groups.specs.Names.{texts_of}
use Rattle.keys_groups.proofs.Entries.{value_at, same_itself}

-- if two texts differ, they are not equal
differ : (text other : List ℕ) → (text ≡ other → ⊥) → bytes_eq text other ≡ false
differ text other apart = (elim (bytes_eq text other) as (λ b. bytes_eq text other ≡ b → b ≡ false) [
  | true ↦ λ same. absurd (apart ((bytes_decides text other).0 same))
  | false ↦ λ _. refl
]) refl

-- no text is this one
pub none_any : (texts : List (List ℕ)) (name : List ℕ) → ((number : ℕ) → slice_get texts number ≡ Some name → ⊥) → list_any (bytes_eq name) texts ≡ false
none_any [] name absent = refl
none_any (text ∷ texts) name absent =
    ap (λ b. b || list_any (bytes_eq name) texts) (differ name text (λ same. absent 0 (ap Some (sym same)))) ∙ none_any texts name (λ number. absent (suc number))

-- one text more
pub distinct_more : (texts : List (List ℕ)) (name : List ℕ) → ((number : ℕ) → slice_get texts number ≡ Some name → ⊥) → IsDistinct bytes_eq texts → IsDistinct bytes_eq (texts ++ name ∷ [])
distinct_more texts name absent distinct = IsDistinct-push nat_list_eq_equiv texts name distinct (none_any texts name absent)

-- a text that has no equal among others is none of them
not_at : (text : List ℕ) (texts : List (List ℕ)) (number : ℕ) (name : List ℕ) → AllByRecursion (λ other. bytes_eq text other ≡ false) texts → slice_get texts number ≡ Some name → bytes_eq text name ≡ false
not_at text [] number name all there = absurd (none-some name there)
not_at text (other ∷ texts) zero name all there = subst (λ (t : List ℕ). bytes_eq text t ≡ false) (same_Some other name there) all.0
not_at text (other ∷ texts) (suc number) name all there = not_at text texts number name all.1 there

twice : {X : Type 0} (b : Bool) (x y z : Option X) → cond b x z ≡ cond b x (cond b y z)
twice true x y z = refl
twice false x y z = refl

module _ {A X : Type 0} where
  -- the name of an entry that is got
  pub text_got : (entries : List (Vec ℕ A × X)) (number : ℕ) (entry : Vec ℕ A × X) → slice_get entries number ≡ Some entry → slice_get (texts_of entries) number ≡ Some entry.0.items
  text_got [] number entry there = absurd (none-some entry there)
  text_got (first ∷ entries) zero entry there = ap (λ (o : Option (Vec ℕ A × X)). option_map (λ (e : Vec ℕ A × X). e.0.items) o) there
  text_got (first ∷ entries) (suc number) entry there = text_got entries number entry there

  -- the entry of a number is the one that is found by its name
  pub found_at : (entries : List (Vec ℕ A × X)) (number : ℕ) (entry : Vec ℕ A × X) → IsDistinct bytes_eq (texts_of entries) → slice_get entries number ≡ Some entry → value_at entry.0.items entries ≡ Some entry.1
  unfolding IsDistinct
  found_at [] number entry distinct there = absurd (none-some entry there)
  found_at (first ∷ entries) zero entry distinct there =
      subst (λ (e : Vec ℕ A × X). value_at e.0.items (first ∷ entries) ≡ Some e.1) (same_Some first entry there)
      (ap (λ b. cond b (Some first.1) (value_at first.0.items entries)) (same_itself first.0.items))
  found_at (first ∷ entries) (suc number) entry distinct there =
      let text = entry.0.items in
      ap (λ b. cond b (Some first.1) (value_at text entries))
      (is_eq-slice_cmp text first.0.items ∙ nat_list_eq_equiv.symm text first.0.items ∙ not_at first.0.items (texts_of entries) number text distinct.0 (text_got entries number entry there))
      ∙ found_at entries number entry distinct.1 there

  -- a name that no entry has is not found
  pub not_found : (entries : List (Vec ℕ A × X)) (name : List ℕ) → ((number : ℕ) → slice_get (texts_of entries) number ≡ Some name → ⊥) → value_at name entries ≡ None
  not_found [] name absent = refl
  not_found (first ∷ entries) name absent =
      ap (λ b. cond b (Some first.1) (value_at name entries)) (is_eq-slice_cmp name first.0.items ∙ differ name first.0.items (λ same. absent 0 (ap Some (sym same))))
      ∙ not_found entries name (λ number. absent (suc number))

  -- one entry more
  pub pushed_at : (entries : List (Vec ℕ A × X)) (name : List ℕ) (key : Vec ℕ A) (w : X) → key.items ≡ name → ((number : ℕ) → slice_get (texts_of entries) number ≡ Some name → ⊥) → (other : List ℕ) →
      value_at other (entries ++ (key, w) ∷ []) ≡ cond (bytes_eq name other) (Some w) (value_at other entries)
  pushed_at [] name key w named absent other =
      ap (λ b. cond b (Some w) None) (is_eq-slice_cmp other key.items ∙ nat_list_eq_equiv.symm other key.items ∙ ap (λ t. bytes_eq t other) named)
  pushed_at (first ∷ entries) name key w named absent other =
      ap (λ o. cond (is_eq (slice_cmp nat_cmp other first.0.items)) (Some first.1) o) (pushed_at entries name key w named (λ number. absent (suc number)) other)
      ∙ (elim (is_eq (slice_cmp nat_cmp other first.0.items)) as (λ b. is_eq (slice_cmp nat_cmp other first.0.items) ≡ b → cond b (Some first.1) (cond (bytes_eq name other) (Some w) (value_at other entries)) ≡ cond (bytes_eq name other) (Some w) (cond b (Some first.1) (value_at other entries))) [
        | true ↦ λ here.
            let same : other ≡ first.0.items = (bytes_decides other first.0.items).0 (sym (is_eq-slice_cmp other first.0.items) ∙ here) in
            ap (λ b. cond b (Some w) (Some first.1)) (sym (differ name other (λ is. absent 0 (ap Some (sym (is ∙ same))))))
        | false ↦ λ _. refl
      ]) refl

  -- the value of an entry is changed
  pub changed_entry : (entries : List (Vec ℕ A × X)) (number : ℕ) (name : List ℕ) (key : Vec ℕ A) (w : X) → IsDistinct bytes_eq (texts_of entries) → slice_get (texts_of entries) number ≡ Some name → key.items ≡ name → (other : List ℕ) →
      value_at other (slice_set entries number (key, w)) ≡ cond (bytes_eq name other) (Some w) (value_at other entries)
  unfolding IsDistinct
  changed_entry [] number name key w distinct there named other = absurd (none-some name there)
  changed_entry (first ∷ entries) zero name key w distinct there named other =
      let test : (t : List ℕ) → t ≡ name → is_eq (slice_cmp nat_cmp other t) ≡ bytes_eq name other = λ t is. is_eq-slice_cmp other t ∙ nat_list_eq_equiv.symm other t ∙ ap (λ u. bytes_eq u other) is in
      ap (λ b. cond b (Some w) (value_at other entries)) (test key.items named)
      ∙ twice (bytes_eq name other) (Some w) (Some first.1) (value_at other entries)
      ∙ ap (λ b. cond (bytes_eq name other) (Some w) (cond b (Some first.1) (value_at other entries))) (sym (test first.0.items (same_Some first.0.items name there)))
  changed_entry (first ∷ entries) (suc number) name key w distinct there named other =
      ap (λ o. cond (is_eq (slice_cmp nat_cmp other first.0.items)) (Some first.1) o) (changed_entry entries number name key w distinct.1 there named other)
      ∙ (elim (is_eq (slice_cmp nat_cmp other first.0.items)) as (λ b. is_eq (slice_cmp nat_cmp other first.0.items) ≡ b → cond b (Some first.1) (cond (bytes_eq name other) (Some w) (value_at other entries)) ≡ cond (bytes_eq name other) (Some w) (cond b (Some first.1) (value_at other entries))) [
        | true ↦ λ here.
            let same : other ≡ first.0.items = (bytes_decides other first.0.items).0 (sym (is_eq-slice_cmp other first.0.items) ∙ here) in
            let apart : bytes_eq name other ≡ false = nat_list_eq_equiv.symm name other ∙ ap (λ t. bytes_eq t name) same ∙ not_at first.0.items (texts_of entries) number name distinct.0 there in
            ap (λ b. cond b (Some w) (Some first.1)) (sym apart)
        | false ↦ λ _. refl
      ]) refl

  -- .. which leaves the names
  pub same_texts : (entries : List (Vec ℕ A × X)) (number : ℕ) (name : List ℕ) (key : Vec ℕ A) (w : X) → slice_get (texts_of entries) number ≡ Some name → key.items ≡ name → texts_of (slice_set entries number (key, w)) ≡ texts_of entries
  same_texts [] number name key w there named = refl
  same_texts (first ∷ entries) zero name key w there named = ap (λ t. t ∷ texts_of entries) (named ∙ sym (same_Some first.0.items name there))
  same_texts (first ∷ entries) (suc number) name key w there named = ap (λ ts. first.0.items ∷ ts) (same_texts entries number name key w there named)

  pub more_texts : (entries : List (Vec ℕ A × X)) (name : List ℕ) (key : Vec ℕ A) (w : X) → key.items ≡ name → texts_of (entries ++ (key, w) ∷ []) ≡ texts_of entries ++ name ∷ []
  more_texts [] name key w named = ap (λ t. t ∷ []) named
  more_texts (first ∷ entries) name key w named = ap (λ ts. first.0.items ∷ ts) (more_texts entries name key w named)

  pub number_within : (entries : List (Vec ℕ A × X)) (number : ℕ) (name : List ℕ) → slice_get (texts_of entries) number ≡ Some name → number < length entries
  number_within entries number name there = omega (arith, slice_get_within (texts_of entries) number name there, length-map entries (λ (e : Vec ℕ A × X). e.0.items))

  -- the entry that is read at the number of a name
  pub entry_got : (entries : List (Vec ℕ A × X)) (number : ℕ) (name : List ℕ) (entry : Vec ℕ A × X) → slice_get (texts_of entries) number ≡ Some name → entry ≡ get_or entries number entry → slice_get entries number ≡ Some entry
  entry_got entries number name entry there is = slice_get_read entries (length entries) number entry refl (number_within entries number name there) is
