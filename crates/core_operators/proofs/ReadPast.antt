-- Lists that are read from the front: the rest of a slice, and its first entry.
use Rattle.std.specs.List.{slice_get}
use Rattle.std.specs.Prelude.{option_map}
use Rattle.std.proofs.Common.{Option, None, Some, ℕ, List, [], ◌∷◌, ◌≡◌, ◌+◌, ◌*◌, ◌-◌, ◌<◌, ◌≤◌, cond, leb, length, take, drop, get_or, refl, sym, ap, ◌∙◌, arith}
use Rattle.std.proofs.lemmas.Bool.Decides.{nat_tests}
use Rattle.std.proofs.lemmas.List.{length-drop, take_all, drop_more}

module _ {X : Type 0} where
  -- a slice up to the end is all of the rest
  pub behind : (xs : List X) (n : ℕ) → take (length xs - n) (drop n xs) ≡ drop n xs
  behind xs n = take_all (length xs - n) (drop n xs) (omega (arith, length-drop n xs))

  -- what is left from a place on, by the entry there
  pub left_at : (xs : List X) (i : ℕ) (x : X) → i < length xs → x ≡ get_or xs i x → drop i xs ≡ x ∷ drop (i + 1) xs
  left_at xs i x inside is = drop_more xs i x inside ∙ ap (λ y. y ∷ drop (i + 1) xs) (sym is)

  pub some_first : (left : List X) (x : X) → Some x ≡ slice_get left 0 → 0 < length left
  some_first [] x first = absurd (cc)
  some_first (y ∷ left) x first = omega arith

  pub no_first : {R : Type 0} (at : R → X) (o : Option R) (left : List X) → ((r : R) → o ≡ Some r → ⊥) → option_map at o ≡ slice_get left 0 → None ≡ slice_get left 0
  no_first at None left none e = e
  no_first at (Some r) left none e = absurd (none r refl)

-- one comparison skips the first entry of one list, or of both
skips : (hash known : ℕ) → 1 ≤ cond (leb hash known) 1 0 + cond (leb known hash) 1 0
skips hash known = grind (arith, nat_tests)

module _ {X Y : Type 0} (left : List X) (right : List Y) (before now hash known passed others_passed : ℕ) (ticked : now ≡ before + 1) (some : 0 < length left) (other : 0 < length right)
    (passed_is : passed ≡ cond (leb hash known) 1 0) (others_is : others_passed ≡ cond (leb known hash) 1 0) (small : passed ≤ 1) (others_small : others_passed ≤ 1) where
  -- the counted comparisons with the entries left of both lists are at most so many
  pub counted_few : (total : ℕ) → before + length left + length right ≤ total → now + length (take (length left - passed) (drop passed left)) + length (take (length right - others_passed) (drop others_passed right)) ≤ total
  counted_few total was =
      let n = length-drop passed left in
      let m = length-drop others_passed right in
      let skip : 1 ≤ passed + others_passed = rw (passed_is, others_is) (skips hash known) in
      rw (behind left passed, behind right others_passed) (omega (arith, n, m, skip, small, others_small, ticked, some, other, was))

  -- twice the counted comparisons with the entries left of both lists are at least so many
  pub counted_some : (total : ℕ) → total ≤ length left + length right + 2 * before → total ≤ length (take (length left - passed) (drop passed left)) + length (take (length right - others_passed) (drop others_passed right)) + 2 * now
  counted_some total was =
      let n = length-drop passed left in
      let m = length-drop others_passed right in
      rw (behind left passed, behind right others_passed) (omega (arith, n, m, small, others_small, ticked, some, other, was))
