use Rattle.std.proofs.Common.{◌≡◌, true, ◌++◌, length}
use Rattle.core_laws.specs.Maps.{IsAscending, below}
use Rattle.core_operators.proofs.ascending.entries_below.Given as goal

-- the entries so far, then those left that are below theta, are all entries below theta
abbrev pub invariant-loop-entry : goal.invariant-loop-entry
invariant-loop-entry g l =
    let key = g.E.SketchEntry.key in
    record {
      rest : l.entries.items ++ below key l.entry-iterator.rest l.theta ≡ below key l.fn.items.rest l.theta;
      in_order : l.ascending ≡ true → IsAscending key l.entry-iterator.rest;
    }

-- the entries that are left
abbrev pub decreases-loop-entry : goal.decreases-loop-entry
decreases-loop-entry g l = length l.entry-iterator.rest
