use Rattle.std.proofs.Common.{length, ◌++◌}
use Rattle.keys_sketches.specs.Keys.{HaveSameLines}
use Rattle.keys_groups.specs.Names.{texts_of}
use Rattle.keys_joins.specs.Evaluated.{names_in}
use Rattle.keys_joins.proofs.evaluated.all_names.Given as goal

-- the names in the tables that are left, and those that were put, are the names in all tables
abbrev pub invariant-loop-table : goal.invariant-loop-table
invariant-loop-table l = HaveSameLines (names_in l.left ++ texts_of l.names.entries) (names_in l.tables)

abbrev pub decreases-loop-table : goal.decreases-loop-table
decreases-loop-table l = length l.left
