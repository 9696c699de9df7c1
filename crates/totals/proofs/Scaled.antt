-- Totals: how large a scaled sum is.
use Rattle.std.proofs.Common.{◌≡◌, ◌≢◌, ◌+◌, ◌*◌, ◌<◌, ◌≤◌, ℕ, true, false, eqb, List, [], ◌∷◌, length, map, ap, ◌∙◌, refl, arith}
use Rattle.std.specs.Prelude.{◌||◌}
use Rattle.std.specs.List.{AllByRecursion, AllPairs, list_any}
use Rattle.std.proofs.lemmas.Bool.Decides.{nat_tests}
use Rattle.std.proofs.lemmas.List.{length-map}
use Rattle.std.proofs.lemmas.Map.Steps.{length-le_from_distinct_below}
use Rattle.std.proofs.lemmas.Nat.{mul-le, le-div, div_below}
use Rattle.core_compact.specs.CompactState.{Compact, IsCompact}
use Rattle.core_laws.specs.declared.TheConstants.{MAX_THETA}
use Rattle.core_laws.proofs.maps.MapsOfLists.{apart}
use Rattle.core_slots.specs.Entry.{tuple_key}
use Rattle.core_slots.specs.declared.entry.TupleEntry.{TupleEntry}
use Rattle.estimates.specs.Fraction.{nearest}
use Rattle.totals.specs.Totals.{sum_of, total_of, IsTotalOf}

-- distinct hashes below t are at most t
below_any : (t q : ℕ) (hs : List ℕ) → AllByRecursion (λ h. h < t) hs → list_any (eqb q) hs ≡ true → q < t
below_any t q [] all found = absurd (cc)
below_any t q (h ∷ hs) all found =
    (elim (eqb q h) as (λ b. eqb q h ≡ b → (b || list_any (eqb q) hs) ≡ true → q < t) [
      | true ↦ λ same is. let all_below : h < t = all.0 in grind (arith, nat_tests)
      | false ↦ λ other is. below_any t q hs all.1 is
    ]) refl found

pub few_below : (t : ℕ) (es : List (TupleEntry ℕ)) → AllPairs (λ x y. x ≢ y) (map tuple_key es) → AllByRecursion (λ h. h < t) (map tuple_key es) → length es ≤ t
few_below t es pairs below =
    let few : length (map tuple_key es) ≤ t = length-le_from_distinct_below (map tuple_key es) t (apart (map tuple_key es) pairs) (λ q found. below_any t q (map tuple_key es) below found) in
    omega (arith, few, length-map es tuple_key)

-- the total is at least the sum, and the sum itself at the greatest theta
pub at_least : (n t : ℕ) → 0 < t → t ≤ MAX_THETA → n ≤ nearest (n * MAX_THETA) t
at_least n t low high =
    let some : 0 < 2 * t = omega (arith, low) in
    let more : n * t ≤ n * MAX_THETA = mul-le n t n MAX_THETA (omega arith) high in
    le-div n (2 * (n * MAX_THETA) + t) (2 * t) some (omega (arith, more))

itself : (n : ℕ) → nearest (n * MAX_THETA) MAX_THETA ≡ n
itself n =
    let above : n ≤ nearest (n * MAX_THETA) MAX_THETA = at_least n MAX_THETA (omega arith) (omega arith) in
    let below : nearest (n * MAX_THETA) MAX_THETA < n + 1 = div_below (2 * (n * MAX_THETA) + MAX_THETA) (2 * MAX_THETA) (n + 1) (omega arith) (omega arith) in
    omega (arith, above, below)

-- a total is exact at the greatest theta alone, and then the sum
pub exact_total : (s : Compact (TupleEntry ℕ)) → (total_of s).exact ≡ true → (s.theta ≡ MAX_THETA) × ((total_of s).total ≡ sum_of s.entries)
unfolding total_of
exact_total s holds =
    let greatest : s.theta ≡ MAX_THETA = grind (arith, nat_tests) in
    (greatest, ap (λ (t : ℕ). nearest (sum_of s.entries * MAX_THETA) t) greatest ∙ itself (sum_of s.entries))

pub total_consistent : (s : Compact (TupleEntry ℕ)) → IsCompact tuple_key s → IsTotalOf s.entries (total_of s)
unfolding total_of
total_consistent s laws = record {
  at_least = at_least (sum_of s.entries) s.theta laws.shown.theta_low laws.shown.theta_high;
  if_exact = λ holds. (exact_total s holds).1;
}
