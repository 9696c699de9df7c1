-- Reports: the estimate of a sketch, with its bounds.
use Rattle.std.specs.Prelude.{ℕ, Bool, ◌≡◌, ◌<◌, ◌≤◌, ◌==◌, ◌||◌, true, false, length}
use Rattle.core_compact.specs.CompactState.{Compact}
use Rattle.core_laws.specs.declared.TheConstants.{MAX_THETA}
use Rattle.core_state.specs.Fraction.{compact_fraction}
use Rattle.estimates.specs.Bounds.{count_bounds}
use Rattle.estimates.specs.Fraction.{nearest}
use Rattle.estimates.specs.declared.bounds.Interval.{Interval}
use Rattle.keys_reports.specs.declared.report.Report.{Report}

-- a fraction as the nearest whole number
abbrev pub rounded : ℕ × ℕ → ℕ
rounded f = nearest f.0 f.1

-- whether a compact sketch counts exactly: it is empty, or its theta is the greatest
abbrev pub is_exact : Compact ℕ → Bool
is_exact s = s.empty || s.theta == MAX_THETA

-- the report of a compact sketch, with bounds of z standard deviations
unfoldable pub report_of : (z : ℕ) → Compact ℕ → Report
report_of z s = record {
  estimate = rounded (compact_fraction s);
  interval = count_bounds z (length s.entries) s.theta;
  exact = is_exact s;
  retained = length s.entries;
  theta = s.theta;
}

-- both ends of an interval are n
abbrev pub only : (n : ℕ) → Interval
only n = record { lower = n; upper = n }

-- The numbers of a report agree with one another: the estimate is within its bounds, which are at least the number of
-- retained entries, and that number itself if the report is exact. If it is not, the upper bound is greater.
pub record IsConsistent (r : Report) : Type 0 where
  pub above_retained : r.retained ≤ r.interval.lower
  pub above_lower : r.interval.lower ≤ r.estimate
  pub below_upper : r.estimate ≤ r.interval.upper
  pub exact_estimate : r.exact ≡ true → r.estimate ≡ r.retained
  pub exact_interval : r.exact ≡ true → r.interval ≡ only r.retained
  pub unseen : r.exact ≡ false → r.retained < r.interval.upper
