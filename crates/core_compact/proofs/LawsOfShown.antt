-- A retained map that is shown obeys the laws of what a sketch shows.
use Rattle.std.proofs.Common.{◌≡◌, ℕ, ◌<◌, ◌≤◌, ◌^◌, Bool, true, false, List, [], length, map, refl, arith}
use Rattle.std.proofs.lemmas.List.{length-map}
use Rattle.core_laws.specs.Maps.{IsAscending, IsListing}
use Rattle.core_laws.specs.Cuts.{Retained, IsRetained}
use Rattle.core_laws.specs.Shown.{IsShown}
use Rattle.core_laws.proofs.maps.Ascending.{ascending_at, ascending-nil}
use Rattle.core_laws.proofs.maps.MapsOfLists.{each-map, ascending-map, distinct-apart, each-iterated, each-hash}
use Rattle.std.proofs.lemmas.List.Sorted.{length_permutation}

module _ {X : Type 0} (key : X → ℕ) where
  pub IsShown-retained : (v : Retained X) (seed_hash : ℕ) (ordered : Bool) → IsRetained key v → length v.entries < 2 ^ 32 → IsShown (record { empty = false; theta = v.theta; seed_hash = seed_hash; ordered = ordered; hashes = map key v.entries })
  IsShown-retained v seed_hash ordered good limited =
      let up : IsAscending (λ h. h) (map key v.entries) = ascending-map key v.entries good.ascending in
      record {
        theta_low = good.theta_low;
        theta_high = good.theta_high;
        distinct = λ i j d lt in_range same. omega (arith, ascending_at (λ h. h) (map key v.entries) i j d up lt in_range, same);
        nonzero = each-map key (λ h. 0 < h) v.entries good.nonzero;
        below_theta = each-map key (λ h. h < v.theta) v.entries good.below_theta;
        limited = rw (length-map v.entries key) limited;
        ascending = λ _. up;
        none = λ e. absurd (cc);
        greatest = λ e. absurd (cc);
      }

-- no entries shown, below a theta that is the greatest if the sketch is empty
pub IsShown-none : (theta seed_hash : ℕ) → (empty ordered : Bool) → 0 < theta → theta ≤ 9223372036854775807 → (empty ≡ true → theta ≡ 9223372036854775807) → IsShown (record { empty = empty; theta = theta; seed_hash = seed_hash; ordered = ordered; hashes = [] })
IsShown-none theta seed_hash empty ordered low high greatest = record {
  theta_low = low;
  theta_high = high;
  distinct = λ i j d lt in_range. absurd (omega arith);
  nonzero = tt;
  below_theta = tt;
  limited = omega arith;
  ascending = λ _. ascending-nil (λ h. h);
  none = λ _. refl;
  greatest = greatest;
}

module _ {X : Type 0} (key : X → ℕ) where
  -- a sketch that lists its retained entries, in whatever order
  pub shown-iterated : (v : Retained X) (sequence : List X) (seed_hash : ℕ) → IsRetained key v → IsListing key v.entries sequence → length v.entries < 2 ^ 32 → IsShown (record { empty = false; theta = v.theta; seed_hash = seed_hash; ordered = false; hashes = map key sequence })
  shown-iterated v sequence seed_hash good iterated limited = record {
    theta_low = good.theta_low;
    theta_high = good.theta_high;
    distinct = distinct-apart key sequence iterated.apart;
    nonzero = each-hash key (λ h. 0 < h) sequence (each-iterated key (λ x. 0 < key x) v.entries sequence iterated good.nonzero);
    below_theta = each-hash key (λ h. h < v.theta) sequence (each-iterated key (λ x. key x < v.theta) v.entries sequence iterated good.below_theta);
    limited = rw (length-map sequence key, length_permutation v.entries sequence iterated.each_once) limited;
    ascending = λ e. absurd (cc);
    none = λ e. absurd (cc);
    greatest = λ e. absurd (cc);
  }
