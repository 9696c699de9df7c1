use Rattle.std.proofs.Common.{◌≡◌, List, ◌∷◌, ◌++◌, length}
use Rattle.keys_joins.specs.Tables.{FileGroups, AreTablesOf}
use Rattle.keys_joins.specs.Joins.{all_have, sketches_at}
use Rattle.keys_joins.proofs.joins.all_at.Given as goal

-- the sketches so far, and those of the files that are left, are those of all files
abbrev pub invariant-loop-table : goal.invariant-loop-table
invariant-loop-table l =
    (files : List FileGroups) → AreTablesOf files l.others →
    (more : List FileGroups) × AreTablesOf more l.left × (all_have files l.name ≡ all_have more l.name)
    × (l.fn.sketch ∷ sketches_at files l.name ≡ l.sketches.items ++ sketches_at more l.name)

abbrev pub decreases-loop-table : goal.decreases-loop-table
decreases-loop-table l = length l.left
