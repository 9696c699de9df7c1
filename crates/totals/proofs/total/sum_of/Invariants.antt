use Rattle.std.proofs.Common.{◌≡◌, ◌+◌, ◌-◌, ◌*◌, ◌≤◌, ◌^◌, length}
use Rattle.totals.specs.Totals.{sum_of}
use Rattle.totals.proofs.total.sum_of.Given as goal

-- the sum so far, with that of the entries left, is the sum of all
abbrev pub invariant-loop-entry : goal.invariant-loop-entry
invariant-loop-entry l = record {
  rest : l.sum + sum_of l.entry-iterator.rest ≡ sum_of l.fn.entries.rest;
  within : l.sum + (2 ^ 64 - 1) * length l.entry-iterator.rest ≤ (2 ^ 64 - 1) * length l.fn.entries.rest;
}
