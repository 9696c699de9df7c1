use Rattle.std.proofs.Common.{◌≡◌, length, map}
use Rattle.std.specs.Prelude.{max}
use Rattle.keys_sums.specs.Bins.{greatest, sums_in}
use Rattle.keys_sums.proofs.bins.greatest_sum.Given as goal

-- the greatest so far, and those that are left
abbrev pub invariant-loop-entry : goal.invariant-loop-entry
invariant-loop-entry g l = max l.most (greatest (map (λ e. e.summary) l.entry-iterator.rest)) ≡ greatest (sums_in l.fn.sketch)

abbrev pub decreases-loop-entry : goal.decreases-loop-entry
decreases-loop-entry g l = length l.entry-iterator.rest
