-- The value of a union after an update.
use Rattle.std.proofs.Common.{◌≡◌, ℕ, ◌^◌, min, Bool, true, false, cond, List, [], ◌∷◌, map, refl, sym, ap, ◌∙◌, subst}
use Rattle.std.specs.Option.{option_map}
use Rattle.core_laws.specs.Maps.{IsAscending, below, with_entry, map_of, IsApart}
use Rattle.core_laws.specs.Cuts.{Retained, cut}
use Rattle.core_laws.specs.Lawful.{IsWithin}
use Rattle.core_laws.specs.Values.{Empty, NonEmpty}
use Rattle.core_laws.specs.Folds.{Value, fold_key, fold_merges, unmarked, unmarked_value}
use Rattle.core_laws.specs.Operators.{joined, unite}
use Rattle.core_operators.specs.Union.{Union, IsUnion, IsJoined, union_value}
use Rattle.core_laws.proofs.maps.MappedEntries.{below-map, entry_at-map, with_entry-map, cut-map}
use Rattle.core_laws.proofs.insertions.Unmarked.{fold_keeps, ascending-marked}
use Rattle.core_laws.proofs.operators.UnionUpdates.{update-value, first-value}
use Rattle.core_laws.specs.Entries.{KeepsKey}

module _ {X : Type 0} (key : X → ℕ) where
  pub map_of-marked : (xs : List X) → map Value (map_of key xs) ≡ map_of (fold_key key) (map Value xs)
  map_of-marked [] = refl
  map_of-marked (x ∷ xs) = sym (with_entry-map Value key (fold_key key) (λ y. refl) (map_of key xs) x) ∙ ap (λ ys. with_entry (fold_key key) ys (Value x)) (map_of-marked xs)

  pub apart-marked : (xs : List X) → IsApart key xs → IsApart (fold_key key) (map Value xs)
  apart-marked [] apart = tt
  apart-marked (x ∷ xs) apart = (entry_at-map Value key (fold_key key) (λ y. refl) xs (key x) ∙ ap (λ o. option_map Value o) apart.0, apart-marked xs apart.1)

  pub cut-marked : (k : ℕ) (v : Retained X) → NonEmpty (cut (fold_key key) k (map Value v.entries) v.theta) ≡ unmarked_value (NonEmpty (cut key k v.entries v.theta))
  cut-marked k v = ap NonEmpty (cut-map Value key (fold_key key) (λ y. refl) k v.entries v.theta)

  module _ {P : Type 0} (merges : X → X → X) (refuses : X → X → Bool) (keeps : KeepsKey key merges) where
    pub united : (old new : Union X P) (theta : ℕ) (xs : List X) → IsUnion old → old.failed ≡ false → IsAscending key old.content.entries → IsApart key xs → IsJoined key merges refuses old new theta xs → unmarked_value (union_value key new) ≡ unite (fold_key key) (fold_merges key merges refuses) (2 ^ old.lg_k) old.start (unmarked_value (union_value key old) ∷ unmarked_value (NonEmpty (record { entries = map_of key xs; theta = theta })) ∷ [])
    united old new theta xs sound ok up apart join =
        let k = 2 ^ old.lg_k in
        let fkey = fold_key key in
        let fmerges = fold_merges key merges refuses in
        let fkeeps = fold_keeps key merges refuses keeps in
        let m : ℕ = min old.content.theta theta in
        let value : unmarked_value (union_value key new) ≡ NonEmpty (cut (fold_key key) k (map Value new.content.entries) new.content.theta) =
        ap (λ u. unmarked_value (union_value key u)) join.made_with ∙ sym (cut-marked k new.content) in
        let within : IsWithin (fold_key key) k m (unmarked new.content) (joined (fold_key key) (fold_merges key merges refuses) (below (fold_key key) (map Value old.content.entries) m) (below (fold_key key) (map Value xs) m)) =
        rw (below-map Value key (fold_key key) (λ y. refl) old.content.entries m, below-map Value key (fold_key key) (λ y. refl) xs m) join.whole in
        value ∙
        (elim old.empty as (λ b. old.empty ≡ b → NonEmpty (cut (fold_key key) k (map Value new.content.entries) new.content.theta) ≡ unite (fold_key key) (fold_merges key merges refuses) k old.start (unmarked_value (cond b Empty (NonEmpty (cut key k old.content.entries old.content.theta))) ∷ NonEmpty (record { entries = map Value (map_of key xs); theta = theta }) ∷ [])) [
          | true ↦ λ e.
              let nothing : old.content ≡ record { entries = []; theta = old.start } = sound.none_held ok e in
              let m_is : m ≡ min old.start theta = ap (λ v. min v.theta theta) nothing in
              let first : IsWithin (fold_key key) k m (unmarked new.content) (joined (fold_key key) (fold_merges key merges refuses) [] (below (fold_key key) (map Value xs) m)) =
              subst (λ v. IsWithin (fold_key key) k m (unmarked new.content) (joined (fold_key key) (fold_merges key merges refuses) (below (fold_key key) (map Value v.entries) m) (below (fold_key key) (map Value xs) m))) nothing within in
              first-value fkey fmerges fkeeps k old.start m (unmarked new.content) (map Value xs) theta m_is (apart-marked xs apart) first
              ∙ ap (λ ys. unite (fold_key key) (fold_merges key merges refuses) k old.start (Empty ∷ NonEmpty (record { entries = ys; theta = theta }) ∷ [])) (sym (map_of-marked xs))
          | false ↦ λ e.
              update-value fkey fmerges fkeeps k old.start m (unmarked old.content) (unmarked new.content) (map Value xs) theta refl (sound.theta_high ok) (ascending-marked key old.content.entries up) (apart-marked xs apart) within
              ∙ ap (λ ys. unite (fold_key key) (fold_merges key merges refuses) k old.start (NonEmpty (cut (fold_key key) k (map Value old.content.entries) old.content.theta) ∷ NonEmpty (record { entries = ys; theta = theta }) ∷ [])) (sym (map_of-marked xs))
              ∙ ap (λ u. unite (fold_key key) (fold_merges key merges refuses) k old.start (u ∷ NonEmpty (record { entries = map Value (map_of key xs); theta = theta }) ∷ [])) (cut-marked k old.content)
        ]) refl
