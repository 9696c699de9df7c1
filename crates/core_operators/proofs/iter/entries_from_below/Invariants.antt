use Rattle.std.proofs.Common.{◌≡◌, length}
use Rattle.core_table.specs.Gathering.{from_below}
use Rattle.core_operators.proofs.iter.entries_from_below.Given as goal

-- the skipped entries are not below theta
abbrev pub invariant-loop-first : goal.invariant-loop-first
invariant-loop-first g l = from_below g.E.SketchEntry.key l.theta l.left ≡ from_below g.E.SketchEntry.key l.theta l.entries

-- the entries that are left
abbrev pub decreases-loop-first : goal.decreases-loop-first
decreases-loop-first g l = length l.left
