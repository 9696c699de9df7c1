use Rattle.std.proofs.Common.{◌≡◌, List, ◌++◌, length}
use Rattle.keys_joins.specs.Tables.{FileGroups, AreTablesOf}
use Rattle.keys_joins.specs.Evaluated.{groups_in}
use Rattle.keys_joins.proofs.evaluated.groups_in.Given as goal

-- the sketches so far, and those of the files that are left, are those of all files
abbrev pub invariant-loop-table : goal.invariant-loop-table
invariant-loop-table l =
    (files : List FileGroups) → AreTablesOf files l.tables →
    (more : List FileGroups) × AreTablesOf more l.left × (groups_in l.seed files l.name ≡ l.sketches.items ++ groups_in l.seed more l.name)

abbrev pub decreases-loop-table : goal.decreases-loop-table
decreases-loop-table l = length l.left
