use Rattle.std.proofs.Common.{ℕ, List, length}
use Rattle.keys_groups.specs.Names.{AreNamed}
use Rattle.keys_groups.specs.Reading.{LeavesLines}
use Rattle.keys_groups.specs.States.{IsGrouped}
use Rattle.keys_groups.proofs.reading.take_lines.Given as goal

-- the lines so far are in their groups, and the rest is left
abbrev pub invariant-loop-line : goal.invariant-loop-line
invariant-loop-line g l = record {
  named : AreNamed l.groups.index l.groups.entries.items;
  leaves : (before : List (List ℕ)) → IsGrouped l.grouping before l.fn.groups.entries.items → LeavesLines l.grouping before l.text l.groups.entries.items l.rest;
}

abbrev pub decreases-loop-line : goal.decreases-loop-line
decreases-loop-line g l = length l.rest
