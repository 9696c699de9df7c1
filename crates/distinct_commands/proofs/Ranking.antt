-- Groups in the order of their numbers, and their texts.
use Rattle.std.proofs.Common.{ℕ, ◌+◌, ◌≡◌, ◌<◌, arith, List, [], ◌∷◌, ◌++◌, map, length, slice_index_or, Option, refl, sym, ap, ◌∙◌, subst, append_assoc, append-nil}
use Rattle.std.specs.Prelude.{flat_map}
use Rattle.std.specs.List.{All}
use Rattle.std.specs.List.Sorted.{IsPermutation, IsSorted}
use Rattle.std.specs.Ordering.{is_lt}
use Rattle.std.specs.Cmp.{IsTotalOrder}
use Rattle.std.proofs.lemmas.Cmp.{nat_cmp_total, nat_list_cmp_total, on_total, then_total, back_total}
use Rattle.std.proofs.lemmas.List.{get_or-map, length-map}
use Rattle.std.proofs.lemmas.List.Sorted.{IsPermutation-map, All-permutation}
use Rattle.std.proofs.lemmas.List.Elements.{All-head, All-tail}
use Rattle.distinct_commands.specs.Ranked.{ranking, AreRanked, ranked_cmp, HasTexts, first_items}
use Rattle.distinct_commands.specs.declared.ranked.Ranked.{Ranked}
use Rattle.distinct_commands.proofs.FirstItems.{All-first, first-map}

pub ranked_total : IsTotalOrder ranked_cmp
ranked_total = then_total (back_total (on_total (λ group. group.number) nat_cmp_total)) (on_total (λ group. group.name.items) nat_list_cmp_total)

-- one text more
pub text_joined : (left others : List Ranked) (group : Ranked) (all so_far : List ℕ) → all ≡ so_far ++ flat_map (λ group. group.text.items) left → left ≡ group ∷ others → all ≡ (so_far ++ group.text.items) ++ flat_map (λ group. group.text.items) others
text_joined left others group all so_far is parted =
    is ∙ ap (λ gs. so_far ++ flat_map (λ g. g.text.items) gs) parted ∙ sym (append_assoc so_far group.text.items (flat_map (λ g. g.text.items) others))

-- all texts
pub all_joined : (left : List Ranked) (all printed : List ℕ) → all ≡ printed ++ flat_map (λ group. group.text.items) left → left ≡ [] → printed ≡ all
all_joined left all printed is none = sym (is ∙ ap (λ gs. printed ++ flat_map (λ group. group.text.items) gs) none ∙ append-nil printed)

module _ (number : List ℕ → ℕ) (text : List ℕ → List ℕ) where
  abbrev IsOfName : Ranked → Type 0
  IsOfName group = (group.number ≡ number group.name.items) × (group.text.items ≡ text group.name.items)

  texts_are : (groups : List Ranked) → All IsOfName groups → flat_map (λ group. group.text.items) groups ≡ flat_map text (map (λ group. group.name.items) groups)
  texts_are [] all = refl
  texts_are (group ∷ groups) all =
      let head : IsOfName group = All-head IsOfName group groups all in
      ap (λ t. t ++ flat_map (λ g. g.text.items) groups) head.1
      ∙ ap (λ ts. text group.name.items ++ ts) (texts_are groups (All-tail IsOfName group groups all))

  -- groups in the order of their numbers have their names in this order
  names_in_order : (groups : List Ranked) → All IsOfName groups → IsSorted ranked_cmp groups → IsSorted (λ name other. ranking (number name) name (number other) other) (map (λ group. group.name.items) groups)
  names_in_order [] all sorted k d low high = absurd (omega (arith, high))
  names_in_order (first ∷ groups) all sorted k d low high =
      let names = λ (group : Ranked). group.name.items in
      let inside : k + 1 < length (first ∷ groups) = omega (arith, high, length-map (first ∷ groups) names) in
      let group = slice_index_or (first ∷ groups) k first in
      let next = slice_index_or (first ∷ groups) (k + 1) first in
      let is_group : IsOfName group = all k first (omega (arith, inside)) in
      let is_next : IsOfName next = all (k + 1) first inside in
      ap (λ name. is_lt (ranking (number name) name (number (slice_index_or (map names (first ∷ groups)) k d)) (slice_index_or (map names (first ∷ groups)) k d))) (get_or-map names (first ∷ groups) (k + 1) first d inside)
      ∙ ap (λ name. is_lt (ranking (number next.name.items) next.name.items (number name) name)) (get_or-map names (first ∷ groups) k first d (omega (arith, inside)))
      ∙ ap (λ n. is_lt (ranking n next.name.items (number group.name.items) group.name.items)) (sym is_next.0)
      ∙ ap (λ n. is_lt (ranking next.number next.name.items n group.name.items)) (sym is_group.0)
      ∙ sorted k first low inside

  -- the texts of the first groups, one after another
  pub texts_by_name : (most : Option ℕ) (names : List (List ℕ)) (groups : List Ranked) → HasTexts number text names groups → flat_map (λ group. group.text.items) (first_items most groups) ≡ flat_map text (first_items most names)
  texts_by_name most names groups has =
      texts_are (first_items most groups) (All-first IsOfName most groups has.1)
      ∙ ap (flat_map text) (first-map (λ group. group.name.items) most groups ∙ ap (first_items most) (sym has.0))

  -- sorted groups, and the texts of the first ones, one after another
  pub texts_in_order : (most : Option ℕ) (names : List (List ℕ)) (groups sorted : List Ranked) (printed : List ℕ) → HasTexts number text names groups → IsPermutation groups sorted → IsSorted ranked_cmp sorted → printed ≡ flat_map (λ group. group.text.items) (first_items most sorted) →
      (ordered : List (List ℕ)) × AreRanked number names ordered × (printed ≡ flat_map text (first_items most ordered))
  texts_in_order most names groups sorted printed has moved ranked is =
      let all = All-permutation IsOfName groups sorted moved has.1 in (
        map (λ group. group.name.items) sorted,
        (
          subst (λ (ns : List (List ℕ)). IsPermutation ns (map (λ group. group.name.items) sorted)) (sym has.0) (IsPermutation-map (λ group. group.name.items) groups sorted moved),
          names_in_order sorted all ranked,
        ),
        is ∙ texts_are (first_items most sorted) (All-first IsOfName most sorted all) ∙ ap (flat_map text) (first-map (λ group. group.name.items) most sorted),
      )
