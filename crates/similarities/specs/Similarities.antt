-- The similarity of two sketches: the share of the hashes below their common theta that both retain.
use Rattle.std.specs.Prelude.{ℕ, ◌+◌, ◌-◌, ◌*◌, ◌/◌, ◌≤◌, ◌==◌, Bool, true, false, if◌then◌else◌}
use Rattle.std.specs.Int.{abs_diff, div_ceil}
use Rattle.core_laws.specs.declared.TheConstants.{MAX_THETA}
use Rattle.estimates.specs.Bounds.{ceil_sqrt, deviation_count}
use Rattle.estimates.specs.Fraction.{nearest}
use Rattle.estimates.specs.declared.bounds.Deviations.{Deviations}
use Rattle.estimates.specs.declared.bounds.Interval.{Interval}
use Rattle.similarities.specs.declared.similarity.TheConstants.{MILLION}
use Rattle.similarities.specs.declared.similarity.Nonempty.{Nonempty}
use Rattle.similarities.specs.declared.similarity.Nonempty.TheVariants.{Neither, One, Both}
use Rattle.similarities.specs.declared.similarity.Overlap.{Overlap}
use Rattle.similarities.specs.declared.similarity.Similarity.{Similarity}

-- Each of n hashes is shared with probability p. Here p is q millionths. It is near if the s hashes that are shared are within z
-- standard deviations of n p: |n p - s| ≤ z √(n p (1 - p)), here squared and times a million twice.
abbrev pub IsNear : (z s n q : ℕ) → Type 0
IsNear z s n q = abs_diff (n * q) (s * MILLION) * abs_diff (n * q) (s * MILLION) ≤ z * z * (n * q) * (MILLION - q)

-- z √(z² + 4 s (n - s) / n), in millionths and rounded up
abbrev pub reach : (z s n : ℕ) → ℕ
reach z s n = ceil_sqrt (div_ceil (z * z * (MILLION * MILLION) * (z * z * n + 4 * (s * (n - s)))) n)

-- 2 s + z², in millionths
abbrev pub middle : (z s : ℕ) → ℕ
middle z s = MILLION * (2 * s + z * z)

-- The ends of the Wilson score interval, in millionths and rounded outwards: p is near if 2 (n + z²) p is at most
-- z √(z² + 4 s (n - s) / n) away from 2 s + z².
unfoldable pub share_bounds : (z s n : ℕ) → Interval
share_bounds z s n = record {
  lower = (middle z s - reach z s n) / (2 * (n + z * z));
  upper = div_ceil (middle z s + reach z s n) (2 * (n + z * z));
}

-- how many hashes at least one of two sketches retains
abbrev pub united : Overlap → ℕ
united o = o.shared + o.first + o.second

-- the number of standard deviations of bounds: 0 of an exact share
abbrev pub deviations_of : (exact : Bool) → Deviations → ℕ
deviations_of exact deviations = if exact then 0 else deviation_count deviations

-- a similarity with this share and these bounds
abbrev pub similarity_with : Overlap → (exact : Bool) → (share lower upper : ℕ) → Similarity
similarity_with o exact share lower upper = record {
  share = share;
  interval = record { lower = lower; upper = upper };
  exact = exact;
  shared = o.shared;
  united = united o;
  theta = o.theta;
}

-- two sketches that aren't empty: the share of the shared hashes, exact if no theta has fallen; unknown if no hash is left
abbrev pub measured : Deviations → Overlap → Similarity
measured deviations o =
    let exact = o.theta == MAX_THETA in
    let bounds = share_bounds (deviations_of exact deviations) o.shared (united o) in
    if united o == 0 then similarity_with o false (MILLION / 2) 0 MILLION
    else similarity_with o exact (nearest (o.shared * MILLION) (united o)) bounds.lower bounds.upper

-- .. by how many of them aren't empty: two empty ones are alike, and one that is empty has nothing of one that isn't
abbrev pub similarity_by : Nonempty → Deviations → Overlap → Similarity
similarity_by Neither deviations o = similarity_with o true MILLION MILLION MILLION
similarity_by One deviations o = similarity_with o true 0 0 0
similarity_by Both deviations o = measured deviations o

-- the similarity of two sketches, with bounds of these standard deviations
abbrev pub similarity_of : Deviations → Overlap → Similarity
similarity_of deviations o = similarity_by o.nonempty deviations o

-- The numbers of a similarity agree with one another: the share is within its bounds, and these within 0 and 1.
pub record IsConsistent (s : Similarity) : Type 0 where
  pub above_lower : s.interval.lower ≤ s.share
  pub below_upper : s.share ≤ s.interval.upper
  pub at_most_one : s.interval.upper ≤ MILLION
