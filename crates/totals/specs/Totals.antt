-- The total of the values of a stream, estimated by a sketch of sums.
use Rattle.std.specs.Prelude.{ℕ, ◌≡◌, ◌≤◌, ◌+◌, ◌*◌, ◌==◌, true, List, [], ◌∷◌, length}
use Rattle.core_compact.specs.CompactState.{Compact}
use Rattle.core_laws.specs.declared.TheConstants.{MAX_THETA}
use Rattle.core_slots.specs.declared.entry.TupleEntry.{TupleEntry}
use Rattle.estimates.specs.Fraction.{nearest}
use Rattle.totals.specs.declared.total.LinesTotal.{LinesTotal}
use Rattle.totals.specs.declared.total.Total.{Total}

-- the sum of the sums of entries
abbrev pub sum_of : List (TupleEntry ℕ) → ℕ
sum_of [] = 0
sum_of (e ∷ es) = e.summary + sum_of es

-- the estimated total of the values of all keys: the sum of the retained sums times the greatest theta, over theta
abbrev pub estimated_total : Compact (TupleEntry ℕ) → ℕ
estimated_total s = nearest (sum_of s.entries * MAX_THETA) s.theta

-- the total that a sketch of sums estimates, and the numbers that it follows from
unfoldable pub total_of : Compact (TupleEntry ℕ) → Total
total_of s = record {
  total = estimated_total s;
  exact = s.theta == MAX_THETA;
  retained = length s.entries;
  theta = s.theta;
}

-- A total and the sum of the retained sums agree: the total is at least that sum, and that sum itself if it is exact.
pub record IsTotalOf (es : List (TupleEntry ℕ)) (t : Total) : Type 0 where
  pub at_least : sum_of es ≤ t.total
  pub if_exact : t.exact ≡ true → t.total ≡ sum_of es

-- the exact total of what lines add, beside the number of their keys, which the sketch of their sums estimates
unfoldable pub lines_total : Compact (TupleEntry ℕ) → (total : ℕ) → LinesTotal
lines_total s total = record {
  total = total;
  keys = nearest (length s.entries * MAX_THETA) s.theta;
  exact = s.theta == MAX_THETA;
  retained = length s.entries;
  theta = s.theta;
}
