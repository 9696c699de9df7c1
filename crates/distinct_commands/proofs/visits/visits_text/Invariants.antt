use Rattle.std.proofs.Common.{◌≡◌, ◌++◌}
use Rattle.std.specs.Prelude.{string_bytes}
use Rattle.distinct_arguments.specs.Faults.{options_of}
use Rattle.distinct_commands.specs.Visits.{ranges_head, bins_text}
use Rattle.distinct_commands.proofs.visits.visits_text.Given as goal

-- the text has the bins so far
abbrev pub invariant-loop-bin : goal.invariant-loop-bin
invariant-loop-bin l = string_bytes l.text ≡ ranges_head l.options.form ++ bins_text (options_of l.options) l.visits l.most l.bin
