use Rattle.std.proofs.Common.{◌+◌, ◌-◌}
use Rattle.core_table.specs.HashTable.{HasSize}
use Rattle.core_table.proofs.insertion.size_for.Given as goal

-- the slots so far are those of an empty table that grows
abbrev pub invariant-loop-lg : goal.invariant-loop-lg
invariant-loop-lg l = HasSize l.lg l.lg_nom l.grow 0

-- how far the slots may still grow
abbrev pub decreases-loop-lg : goal.decreases-loop-lg
decreases-loop-lg l = l.lg_nom + 1 - l.lg
