-- The entries of a map whose keys are texts: after a change, and in their order.
use Rattle.std.proofs.Common.{ℕ, ◌≡◌, Bool, true, false, cond, List, [], ◌∷◌, Option, Some, Vec, refl, sym, ap, ◌∙◌, subst, inl, inr}
use Rattle.std.specs.Prelude.{◌⊎◌, IsSome}
use Rattle.std.specs.Str.{bytes_eq}
use Rattle.std.specs.List.{AllByRecursion}
use Rattle.std.specs.List.Sorted.{IsStrictlySortedBy}
use Rattle.std.specs.Cmp.{eq_by_cmp_equiv}
use Rattle.std.specs.Cmp.Lexicographic.{slice_cmp, bytes_decides, nat_list_cmp_total, nat_list_eq_equiv}
use Rattle.std.specs.declared.cmp.Ordering.TheVariants.{Less}
use Rattle.std.specs.Ordering.{nat_cmp, is_eq, ordering_reverse}
use Rattle.std.specs.Map.{keys_of, lookup, KeepsOthers}
use Rattle.std.specs.BTreeMap.{BTreeMap, get_by, is_at, UpdatesBy}
use Rattle.std.proofs.lemmas.Cmp.{tied_itself}
use Rattle.std.proofs.lemmas.Map.Text.{is_eq-slice_cmp}
use Rattle.keys_sketches.specs.Keys.{IsAmong}
use Rattle.keys_groups.specs.Names.{texts_of}

-- both keys have the same bytes
pub same_text : (text other : List ℕ) → is_eq (slice_cmp nat_cmp text other) ≡ true → text ≡ other
same_text text other same = (bytes_decides text other).0 (sym (is_eq-slice_cmp text other) ∙ same)

pub same_itself : (text : List ℕ) → is_eq (slice_cmp nat_cmp text text) ≡ true
same_itself text = ap is_eq (tied_itself nat_list_cmp_total text)

some_cond : {X : Type 0} (b : Bool) (x : X) (o : Option X) → IsSome o → IsSome (cond b (Some x) o)
some_cond true x o some = refl
some_cond false x o some = some

module _ {A X : Type 0} where
  -- the value at a text
  abbrev pub value_at : List ℕ → List (Vec ℕ A × X) → Option X
  value_at text entries = lookup (is_at (λ key. slice_cmp nat_cmp text key.items)) entries

  -- ---- a change at a text

  module _ (text : List ℕ) where
    others_stay : (m n : BTreeMap (Vec ℕ A) X) (w : Option X) → UpdatesBy (λ x y. slice_cmp nat_cmp x.items y.items) (λ k. slice_cmp nat_cmp text k.items) m n w → (other : List ℕ) → bytes_eq text other ≡ false →
        get_by (λ k. slice_cmp nat_cmp other k.items) n ≡ get_by (λ k. slice_cmp nat_cmp other k.items) m
    unfolding KeepsOthers
    others_stay m n w changed other apart =
        changed.3 (is_at (λ k. slice_cmp nat_cmp other k.items)) (λ x y. (eq_by_cmp_equiv nat_list_cmp_total).congr other x.items y.items)
        (λ k same. is_eq-slice_cmp other k.items ∙ ap (bytes_eq other) (sym (same_text text k.items same)) ∙ nat_list_eq_equiv.symm other text ∙ apart)

    pub changed_at : (m n : BTreeMap (Vec ℕ A) X) (w : Option X) → UpdatesBy (λ x y. slice_cmp nat_cmp x.items y.items) (λ k. slice_cmp nat_cmp text k.items) m n w → (other : List ℕ) →
        get_by (λ k. slice_cmp nat_cmp other k.items) n ≡ cond (bytes_eq text other) w (get_by (λ k. slice_cmp nat_cmp other k.items) m)
    changed_at m n w changed other =
        (elim (bytes_eq text other) as (λ b. bytes_eq text other ≡ b → get_by (λ k. slice_cmp nat_cmp other k.items) n ≡ cond b w (get_by (λ k. slice_cmp nat_cmp other k.items) m)) [
          | true ↦ λ same. subst (λ (o : List ℕ). get_by (λ k. slice_cmp nat_cmp o k.items) n ≡ w) ((bytes_decides text other).0 same) changed.1
          | false ↦ λ apart. others_stay m n w changed other apart
        ]) refl

  -- ---- entries in ascending order

  all_above : (low : List ℕ) (entries : List (Vec ℕ A × X)) → AllByRecursion (λ key. slice_cmp nat_cmp low key.items ≡ Less) (keys_of entries) → AllByRecursion (λ text. slice_cmp nat_cmp low text ≡ Less) (texts_of entries)
  all_above low [] all = tt
  all_above low (entry ∷ entries) all = (all.0, all_above low entries all.1)

  pub texts_ascend : (entries : List (Vec ℕ A × X)) → IsStrictlySortedBy (λ x y. slice_cmp nat_cmp x.items y.items) (keys_of entries) → IsStrictlySortedBy (slice_cmp nat_cmp) (texts_of entries)
  unfolding IsStrictlySortedBy
  texts_ascend [] ascend = tt
  texts_ascend (entry ∷ entries) ascend = (all_above entry.0.items entries ascend.0, texts_ascend entries ascend.1)

  -- a text with a value is the text of a key, and the other way round
  pub among_texts : (text : List ℕ) (entries : List (Vec ℕ A × X)) → IsSome (value_at text entries) → IsAmong text (texts_of entries)
  among_texts text [] some = absurd (cc)
  among_texts text (entry ∷ entries) some =
      (elim (is_eq (slice_cmp nat_cmp text entry.0.items)) as (λ b. is_eq (slice_cmp nat_cmp text entry.0.items) ≡ b → IsSome (cond b (Some entry.1) (value_at text entries)) → (text ≡ entry.0.items) ⊎ IsAmong text (texts_of entries)) [
        | true ↦ λ same here. inl (same_text text entry.0.items same)
        | false ↦ λ apart there. inr (among_texts text entries there)
      ]) refl some

  pub has_value : (text : List ℕ) (entries : List (Vec ℕ A × X)) → IsAmong text (texts_of entries) → IsSome (value_at text entries)
  has_value text [] among = absurd among
  has_value text (entry ∷ entries) (inl same) =
      subst (λ (b : Bool). IsSome (cond b (Some entry.1) (value_at text entries))) (sym (ap (λ other. is_eq (slice_cmp nat_cmp text other)) (sym same) ∙ same_itself text)) refl
  has_value text (entry ∷ entries) (inr among) = some_cond (is_eq (slice_cmp nat_cmp text entry.0.items)) entry.1 (value_at text entries) (has_value text entries among)

  -- a text with a value is not a text below all keys
  pub not_below : (low text : List ℕ) (entries : List (Vec ℕ A × X)) → AllByRecursion (λ key. slice_cmp nat_cmp low key.items ≡ Less) (keys_of entries) → IsSome (value_at text entries) → is_eq (slice_cmp nat_cmp text low) ≡ false
  not_below low text [] all some = absurd (cc)
  not_below low text (entry ∷ entries) all some =
      (elim (is_eq (slice_cmp nat_cmp text entry.0.items)) as (λ b. is_eq (slice_cmp nat_cmp text entry.0.items) ≡ b → IsSome (cond b (Some entry.1) (value_at text entries)) → is_eq (slice_cmp nat_cmp text low) ≡ false) [
        | true ↦ λ same here.
            ap (λ other. is_eq (slice_cmp nat_cmp other low)) (same_text text entry.0.items same)
            ∙ ap is_eq (nat_list_cmp_total.antisymm entry.0.items low ∙ ap ordering_reverse all.0)
        | false ↦ λ apart there. not_below low text entries all.1 there
      ]) refl some
