-- Bounds of the total of the values of a stream, from a sketch of sums of it with theta t, and z standard deviations.
use Rattle.std.specs.Prelude.{ℕ, ◌+◌, ◌-◌, ◌*◌, ◌/◌, ◌^◌, ◌≤◌, List, [], ◌∷◌, max, min, nat_lt, if◌then◌else◌}
use Rattle.std.specs.Int.{abs_diff, div_ceil}
use Rattle.core_compact.specs.CompactState.{Compact}
use Rattle.core_laws.specs.declared.TheConstants.{MAX_THETA}
use Rattle.core_slots.specs.declared.entry.TupleEntry.{TupleEntry}
use Rattle.estimates.specs.Bounds.{ceil_sqrt}
use Rattle.estimates.specs.declared.bounds.Interval.{Interval}
use Rattle.totals.specs.Totals.{sum_of}

-- the greatest number of 128 bits
abbrev pub GREATEST : ℕ
GREATEST = 2 ^ 128 - 1

-- the sum of the squares of the sums of entries
abbrev pub squares_of : List (TupleEntry ℕ) → ℕ
squares_of [] = 0
squares_of (e ∷ es) = e.summary * e.summary + squares_of es

-- Each key is retained with probability p = t / MAX_THETA. Horvitz and Thompson estimate the total by the sum of the retained
-- sums over p, and the variance of this estimate by that of their squares times (1 - p) over p². A total n is near if it is
-- within z standard deviations of the estimate; here both sides are squared, and times t².
abbrev pub IsNearTotal : (z : ℕ) → (es : List (TupleEntry ℕ)) → (t n : ℕ) → Type 0
IsNearTotal z es t n =
    abs_diff (n * t) (sum_of es * MAX_THETA) * abs_diff (n * t) (sum_of es * MAX_THETA)
    ≤ z * z * (squares_of es * ((MAX_THETA - t) * MAX_THETA))

-- the greatest of the sums of entries
abbrev pub greatest_in : List (TupleEntry ℕ) → ℕ
greatest_in [] = 0
greatest_in (e ∷ es) = max e.summary (greatest_in es)

-- the root of the sum times the greatest of its parts, by roots that are rounded up, but at most the sum
abbrev pub wide_root : (sum greatest : ℕ) → ℕ
wide_root sum greatest = min (ceil_sqrt sum * ceil_sqrt greatest) sum

-- the root of the sum of the squares, rounded up; if these are 2^128 - 1 or more, a wider one of what they can't exceed
unfoldable pub root_of : List (TupleEntry ℕ) → ℕ
root_of es = if nat_lt (squares_of es) GREATEST then ceil_sqrt (squares_of es) else wide_root (sum_of es) (greatest_in es)

-- one standard deviation of the estimate, rounded up
abbrev pub deviation_of : (es : List (TupleEntry ℕ)) → (t : ℕ) → ℕ
deviation_of es t = div_ceil (root_of es * ceil_sqrt ((MAX_THETA - t) * MAX_THETA)) t

-- The estimated total less and plus z standard deviations, rounded outwards. The total is at least the sum of the retained
-- sums, and an upper bound has at most 128 bits.
unfoldable pub total_bounds : (z : ℕ) → Compact (TupleEntry ℕ) → Interval
total_bounds z s = record {
  lower = max (sum_of s.entries * MAX_THETA / s.theta - z * deviation_of s.entries s.theta) (sum_of s.entries);
  upper = min (div_ceil (sum_of s.entries * MAX_THETA) s.theta + z * deviation_of s.entries s.theta) GREATEST;
}
