-- The result of a binary search in entries that ascend, and the keys around its place.
use Rattle.std.proofs.Common.{◌≡◌, ℕ, ◌≤◌, List, length, get_or, Result, Ok, Err, IfOk, IfErr, sym, ap, arith}
use Rattle.std.specs.List.Sorted.{IsSearchInRange, IsBinarySearchResult, IsNonDecreasingBy}
use Rattle.std.specs.Ordering.{nat_cmp, ordering_index}
use Rattle.std.proofs.lemmas.Cmp.{ranked}
use Rattle.std.proofs.lemmas.Bool.Decides.{nat_tests}
use Rattle.core_laws.specs.Maps.{IsAscending}
use Rattle.core_laws.specs.Places.{IsAt, IsGapFor}
use Rattle.core_laws.proofs.maps.Ascending.{ascending_at}

module _ {X : Type 0} (key : X → ℕ) (xs : List X) (up : IsAscending key xs) (h : ℕ) where
  -- the comparisons with h ascend along the list, as a binary search requires
  comparisons_rise : IsNonDecreasingBy (λ x. ordering_index (nat_cmp (key x) h)) xs
  comparisons_rise i j d le in_range =
      let rise : key (get_or xs i d) ≤ key (get_or xs j d) = grind (arith, ascending_at key xs i j d up, λ (same : i ≡ j). ap (λ k. key (get_or xs k d)) same) in
      grind (arith, nat_tests)

  pub searched : (r : Result ℕ ℕ) → IsSearchInRange r (length xs) → IsBinarySearchResult (λ x. nat_cmp (key x) h) xs r → record { found : IfOk r (IsAt key xs h); absent : IfErr r (IsGapFor key xs h) }
  searched (Ok at) in_range equal = record { found = record { in_range = in_range; has_key = λ d. ranked _ h _ (sym (equal d)) }; absent = tt }
  searched (Err at) in_range parted = record {
    found = tt;
    absent = record {
      in_range = in_range;
      smaller_before = λ k d lt. ranked _ h _ (sym ((parted comparisons_rise).0 k d (omega arith) lt));
      greater_after = λ k d le lt. ranked _ h _ (sym ((parted comparisons_rise).1 k d le lt));
    };
  }
