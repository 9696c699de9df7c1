-- Bounds of a sketch's count, from its retained entries r, its theta t, and z standard deviations.
use Rattle.std.specs.Prelude.{ℕ, zero, suc, ◌+◌, ◌-◌, ◌*◌, ◌/◌, ◌≤◌, max, nat_lt, if◌then◌else◌}
use Rattle.std.specs.Int.{abs_diff, div_ceil}
use Rattle.core_laws.specs.declared.TheConstants.{MAX_THETA}
use Rattle.estimates.specs.declared.bounds.Deviations.{Deviations}
use Rattle.estimates.specs.declared.bounds.Deviations.TheVariants.{One, Two, Three}
use Rattle.estimates.specs.declared.bounds.Interval.{Interval}

-- the number z of standard deviations
abbrev pub deviation_count : Deviations → ℕ
deviation_count One = 1
deviation_count Two = 2
deviation_count Three = 3

-- Each of n values is retained with probability p = t / MAX_THETA. A count n is near r retained entries if r is within z
-- standard deviations of n p: |n p - r| ≤ z √(n p (1 - p)), here squared and times MAX_THETA twice.
abbrev pub IsNear : (z r t n : ℕ) → Type 0
IsNear z r t n = abs_diff (n * t) (r * MAX_THETA) * abs_diff (n * t) (r * MAX_THETA) ≤ z * z * (n * t) * (MAX_THETA - t)

-- how many of the whole numbers below k have a square below n
abbrev pub squares_below : (n k : ℕ) → ℕ
squares_below n zero = 0
squares_below n (suc k) = squares_below n k + (if nat_lt (k * k) n then 1 else 0)

-- how many whole numbers have a square below n, which is the least whole number whose square is at least n
unfoldable pub ceil_sqrt : ℕ → ℕ
ceil_sqrt n = squares_below n n

-- z² (MAX_THETA - t)
abbrev pub spread : (z t : ℕ) → ℕ
spread z t = z * z * (MAX_THETA - t)

-- √(S (S + 4 r MAX_THETA)), where S is the spread, by roots that are rounded up
abbrev pub reach : (z r t : ℕ) → ℕ
reach z r t = ceil_sqrt (spread z t) * ceil_sqrt (spread z t + 4 * (r * MAX_THETA))

-- the sum of these roots
abbrev pub root_sum : (z r t : ℕ) → ℕ
root_sum z r t = ceil_sqrt (spread z t) + ceil_sqrt (spread z t + 4 * (r * MAX_THETA))

-- 2 r MAX_THETA + S, where S is the spread
abbrev pub middle : (z r t : ℕ) → ℕ
middle z r t = 2 * (r * MAX_THETA) + spread z t

-- The ends of the Wilson score interval, rounded outwards: a count n is near if 2 n t is at most √(S (S + 4 r MAX_THETA))
-- away from the middle. The count is at least r.
unfoldable pub count_bounds : (z r t : ℕ) → Interval
count_bounds z r t =
    record { lower = max ((middle z r t - reach z r t) / (2 * t)) r; upper = div_ceil (middle z r t + reach z r t) (2 * t) }
