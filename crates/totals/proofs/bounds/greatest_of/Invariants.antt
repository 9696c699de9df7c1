use Rattle.std.proofs.Common.{◌≡◌}
use Rattle.std.specs.Prelude.{max}
use Rattle.totals.specs.Bounds.{greatest_in}
use Rattle.totals.proofs.bounds.greatest_of.Given as goal

-- the greatest so far, or of the entries left, is the greatest of all
abbrev pub invariant-loop-entry : goal.invariant-loop-entry
invariant-loop-entry l = max l.greatest (greatest_in l.entry-iterator.rest) ≡ greatest_in l.fn.entries.rest
