-- Operators on values without marks, as operators on folds.
use Rattle.std.proofs.Common.{◌≡◌, ℕ, List, [], ◌∷◌, map, Option, Some, None, refl, sym, ap, ◌∙◌}
use Rattle.std.specs.Option.{option_map}
use Rattle.core_laws.specs.Folds.{Fold, Value, fold_key, fold_merges, never, unmarked_value}
use Rattle.core_laws.specs.Maps.{map_of, with_entry, IsApart}
use Rattle.core_laws.specs.Operators.{meet_next}
use Rattle.core_laws.specs.Values.{Sketch}
use Rattle.core_laws.proofs.maps.MappedEntries.{entry_at-map, with_entry-map}
use Rattle.plan_values.proofs.UnmarkedValues.{meet_unmarked}

module _ {X : Type 0} (key : X → ℕ) where
  -- the map that a listing makes
  pub map_of-values : (xs : List X) → map Value (map_of key xs) ≡ map_of (fold_key key) (map Value xs)
  map_of-values [] = refl
  map_of-values (x ∷ xs) = sym (with_entry-map Value key (fold_key key) (λ y. refl) (map_of key xs) x) ∙ ap (λ ys. with_entry (fold_key key) ys (Value x)) (map_of-values xs)

  pub apart-values : (xs : List X) → IsApart key xs → IsApart (fold_key key) (map Value xs)
  apart-values [] apart = tt
  apart-values (x ∷ xs) apart = (entry_at-map Value key (fold_key key) (λ y. refl) xs (key x) ∙ ap (λ o. option_map Value o) apart.0, apart-values xs apart.1)

module _ {X : Type 0} (key : X → ℕ) (merges : X → X → X) where
  abbrev fm : Fold X → Fold X → Fold X
  fm = fold_merges key merges never

  -- an intersection with a value, if no merge is refused
  meet-values : (o : Option (Sketch X)) (v : Sketch X) → unmarked_value (meet_next key merges o v) ≡ meet_next (fold_key key) fm (option_map unmarked_value o) (unmarked_value v)
  meet-values None v = sym (meet_unmarked key merges (v ∷ []))
  meet-values (Some u) v = sym (meet_unmarked key merges (u ∷ v ∷ []))

  pub meets : (new old : Option (Sketch X)) (w : Sketch X) (v : Sketch (Fold X)) → new ≡ Some (meet_next key merges old w) → unmarked_value w ≡ v → option_map unmarked_value new ≡ Some (meet_next (fold_key key) fm (option_map unmarked_value old) v)
  meets new old w v met is = ap (λ o. option_map unmarked_value o) met ∙ ap Some (meet-values old w) ∙ ap (λ u. Some (meet_next (fold_key key) fm (option_map unmarked_value old) u)) is
