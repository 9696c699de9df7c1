use Rattle.std.proofs.Common.{◌≡◌, length}
use Rattle.core_laws.specs.Maps.{IsAscending}
use Rattle.core_operators.specs.Union.{at_or_above}
use Rattle.core_operators.proofs.merge.entries_from.Given as goal

-- the skipped entries are below the hash
abbrev pub invariant-loop-first : goal.invariant-loop-first
invariant-loop-first g l = record {
  left : at_or_above g.E.SketchEntry.key l.left l.from ≡ at_or_above g.E.SketchEntry.key l.entries l.from;
  ascending : IsAscending g.E.SketchEntry.key l.left;
}

-- the entries that are left
abbrev pub decreases-loop-first : goal.decreases-loop-first
decreases-loop-first g l = length l.left
