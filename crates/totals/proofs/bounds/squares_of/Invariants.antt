use Rattle.std.proofs.Common.{◌≡◌, ◌+◌, ◌≤◌, min}
use Rattle.totals.specs.Bounds.{GREATEST, squares_of}
use Rattle.totals.proofs.bounds.squares_of.Given as goal

-- the squares so far, with those of the entries left, are the squares of all, up to the greatest number
abbrev pub invariant-loop-entry : goal.invariant-loop-entry
invariant-loop-entry l = record {
  rest : min (l.squares + squares_of l.entry-iterator.rest) GREATEST ≡ min (squares_of l.fn.entries.rest) GREATEST;
  within : l.squares ≤ GREATEST;
}
