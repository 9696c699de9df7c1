use Rattle.std.proofs.Common.{◌≡◌, map, length}
use Rattle.std.specs.List.{find}
use Rattle.distinct_arguments.specs.Table.{has_row, row_in}
use Rattle.distinct_arguments.proofs.table.row_with.Given as goal

-- the first of the rows that are left is the first of all
abbrev pub invariant-loop-rows : goal.invariant-loop-rows
invariant-loop-rows l = find (has_row l.option) (map row_in l.rows) ≡ find (has_row l.option) (map row_in l.initial.rows)

abbrev pub decreases-loop-rows : goal.decreases-loop-rows
decreases-loop-rows l = length l.rows
