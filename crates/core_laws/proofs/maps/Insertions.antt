-- The entry of a map at a key, and the map with one more entry, by the key's place.
use Rattle.std.proofs.Common.{◌≡◌, ℕ, zero, suc, ◌<◌, ◌≢◌, List, [], ◌∷◌, length, get_or, set, Some, None, refl, sym, ap, arith}
use Rattle.std.specs.List.{insert}
use Rattle.std.proofs.lemmas.Bool.Decides.{nat_tests}
use Rattle.std.proofs.lemmas.List.{set_split}
use Rattle.core_laws.specs.Maps.{IsAscending, entry_at, with_entry}
use Rattle.core_laws.specs.Places.{IsAt, IsGapFor}
use Rattle.core_laws.proofs.maps.Ascending.{ascending_at, ascending-tail, Parts, below_parts, above_parts}

module _ {X : Type 0} (key : X → ℕ) where
  at_tail : (x : X) (xs : List X) (h i : ℕ) → IsAt key (x ∷ xs) h (suc i) → IsAt key xs h i
  at_tail x xs h i is_at = record { in_range = omega (arith, is_at.in_range); has_key = λ d. is_at.has_key d }

  -- the entry at a place that has the key is the one that the map has there
  pub entry_at_place : (xs : List X) (h i : ℕ) (d : X) → IsAscending key xs → IsAt key xs h i → entry_at key xs h ≡ Some (get_or xs i d)
  entry_at_place [] h i d up is_at = absurd (omega (arith, is_at.in_range))
  entry_at_place (x ∷ xs) h zero d up is_at = grind (arith, nat_tests, is_at.has_key x)
  entry_at_place (x ∷ xs) h (suc i) d up is_at =
      grind (arith, nat_tests, is_at.has_key d, ascending_at key (x ∷ xs) zero (suc i) d up (omega arith) is_at.in_range, entry_at_place xs h i d (ascending-tail key x xs up) (at_tail x xs h i is_at))

  pub entry_absent : (xs : List X) (h : ℕ) → ((k : ℕ) (d : X) → k < length xs → key (get_or xs k d) ≢ h) → entry_at key xs h ≡ None
  entry_absent [] h differs = refl
  entry_absent (x ∷ xs) h differs = grind (arith, nat_tests, differs zero x (omega arith), entry_absent xs h (λ k d lt. differs (suc k) d (omega arith)))

  module _ (xs : List X) (h i : ℕ) (up : IsAscending key xs) (is_at : IsAt key xs h i) where
    pub parts_before : Parts key xs h i
    parts_before = record {
      within = omega (arith, is_at.in_range);
      smaller = λ k d lt. rw (← is_at.has_key d) (ascending_at key xs k i d up lt is_at.in_range);
      others = λ k d le lt. rw (← is_at.has_key d) (grind (arith, ascending_at key xs i k d up, λ (same : i ≡ k). ap (λ j. key (get_or xs j d)) same));
    }

    parts_after : Parts key xs (suc h) (suc i)
    parts_after = record {
      within = omega (arith, is_at.in_range);
      smaller = λ k d lt. grind (arith, parts_before.smaller k d, is_at.has_key d, λ (same : k ≡ i). ap (λ j. key (get_or xs j d)) same);
      others = λ k d le lt. grind (arith, is_at.has_key d, ascending_at key xs i k d up);
    }

    -- an entry written at its place
    pub with_entry_at : (x : X) → key x ≡ h → with_entry key xs x ≡ set xs i x
    with_entry_at x same = rw (same, below_parts key xs h i parts_before, above_parts key xs h (suc i) parts_after) (sym (set_split xs i x is_at.in_range))

  module _ (xs : List X) (h i : ℕ) (gap : IsGapFor key xs h i) where
    pub parts_gap : Parts key xs h i
    parts_gap = record { within = gap.in_range; smaller = gap.smaller_before; others = λ k d le lt. omega (arith, gap.greater_after k d le lt) }

    parts_past_gap : Parts key xs (suc h) i
    parts_past_gap = record { within = gap.in_range; smaller = λ k d lt. omega (arith, gap.smaller_before k d lt); others = λ k d le lt. omega (arith, gap.greater_after k d le lt) }

    -- a key that has a gap has no entry
    pub entry_at_gap : entry_at key xs h ≡ None
    entry_at_gap = entry_absent xs h (λ k d lt same. grind (arith, gap.smaller_before k d, gap.greater_after k d))

    -- an entry put into the gap
    pub with_entry_gap : (x : X) → key x ≡ h → with_entry key xs x ≡ insert xs i x
    with_entry_gap x same = rw (same, below_parts key xs h i parts_gap, above_parts key xs h i parts_past_gap) refl
