-- The first items of a list.
use Rattle.std.proofs.Common.{ℕ, zero, suc, ◌≡◌, ◌-◌, true, false, List, [], ◌∷◌, length, map, Option, Some, None, refl, ap, sym, arith}
use Rattle.std.specs.Prelude.{take}
use Rattle.std.specs.Option.{option_map}
use Rattle.std.specs.List.{All}
use Rattle.std.proofs.lemmas.Bool.Decides.{nat_tests}
use Rattle.std.proofs.lemmas.List.{take-map}
use Rattle.std.proofs.lemmas.List.Elements.{All-take}
use Rattle.distinct_commands.specs.Ranked.{first_items, is_full}

module _ {X : Type 0} where
  -- of no items
  pub first_of_none : (room : Option ℕ) (xs : List X) → xs ≡ [] → first_items room xs ≡ []
  first_of_none None xs none = none
  first_of_none (Some zero) xs none = refl
  first_of_none (Some (suc n)) [] none = refl
  first_of_none (Some (suc n)) (x ∷ xs) none = absurd cc

  pub first_of_nothing : (room : Option ℕ) (xs : List X) → length xs ≡ 0 → first_items room xs ≡ []
  first_of_nothing room [] none = first_of_none room [] refl
  first_of_nothing room (x ∷ xs) none = absurd (omega (arith, none))

  -- no more items
  pub none_first : (room : Option ℕ) (xs : List X) → is_full room ≡ true → first_items room xs ≡ []
  none_first None xs full = absurd cc
  none_first (Some zero) xs full = refl
  none_first (Some (suc n)) xs full = absurd (grind (arith, nat_tests))

  -- one item, and those behind it
  pub one_first : (room : Option ℕ) (x : X) (xs : List X) → is_full room ≡ false → first_items room (x ∷ xs) ≡ x ∷ first_items (option_map (λ n. n - 1) room) xs
  one_first None x xs some = refl
  one_first (Some zero) x xs some = absurd (grind (arith, nat_tests))
  one_first (Some (suc n)) x xs some = let same : n ≡ suc n - 1 = omega arith in ap (λ (m : ℕ). x ∷ take m xs) same

  pub All-first : (P : X → Type 0) (room : Option ℕ) (xs : List X) → All P xs → All P (first_items room xs)
  All-first P None xs all = all
  All-first P (Some n) xs all = All-take P n xs all

pub first-map : {X Y : Type 0} (f : X → Y) (room : Option ℕ) (xs : List X) → map f (first_items room xs) ≡ first_items room (map f xs)
first-map f None xs = refl
first-map f (Some n) xs = sym (take-map f n xs)
