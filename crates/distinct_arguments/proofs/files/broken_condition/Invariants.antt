use Rattle.std.proofs.Common.{◌≡◌, map, length}
use Rattle.distinct_arguments.specs.Settings.{options_of}
use Rattle.distinct_arguments.specs.Table.{condition_in}
use Rattle.distinct_arguments.specs.Arguments.{broken_condition}
use Rattle.distinct_arguments.proofs.files.broken_condition.Given as goal

-- the rules that are left have the mistake of all
abbrev pub invariant-loop-conditions : goal.invariant-loop-conditions
invariant-loop-conditions l =
    broken_condition l.command (options_of l.options) l.option (map condition_in l.conditions)
    ≡ broken_condition l.command (options_of l.options) l.option (map condition_in l.initial.conditions)

abbrev pub decreases-loop-conditions : goal.decreases-loop-conditions
decreases-loop-conditions l = length l.conditions
