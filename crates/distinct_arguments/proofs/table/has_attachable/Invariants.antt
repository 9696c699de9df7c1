use Rattle.std.proofs.Common.{◌≡◌, map, length}
use Rattle.std.specs.List.{list_any}
use Rattle.distinct_arguments.specs.Table.{is_attachable, row_in}
use Rattle.distinct_arguments.proofs.table.has_attachable.Given as goal

-- one of the rows that are left has the name if one of all has it
abbrev pub invariant-loop-rows : goal.invariant-loop-rows
invariant-loop-rows l = list_any (is_attachable l.name) (map row_in l.rows) ≡ list_any (is_attachable l.name) (map row_in l.initial.rows)

abbrev pub decreases-loop-rows : goal.decreases-loop-rows
decreases-loop-rows l = length l.rows
