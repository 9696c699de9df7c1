use Rattle.std.proofs.Common.{◌≡◌, map, length}
use Rattle.distinct_arguments.specs.Settings.{options_of}
use Rattle.distinct_arguments.specs.Table.{row_in}
use Rattle.distinct_arguments.specs.Arguments.{broken_row}
use Rattle.distinct_arguments.proofs.files.broken_row.Given as goal

-- the rows that are left have the mistake of all
abbrev pub invariant-loop-rows : goal.invariant-loop-rows
invariant-loop-rows l =
    broken_row l.command (options_of l.options) (map row_in l.rows) ≡ broken_row l.command (options_of l.options) (map row_in l.initial.rows)

abbrev pub decreases-loop-rows : goal.decreases-loop-rows
decreases-loop-rows l = length l.rows
