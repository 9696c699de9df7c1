use Rattle.std.proofs.Common.{take}
use Rattle.example_readme.specs.Visitors.{HasVisitors, all_hashes}
use Rattle.example_readme.proofs.total.Given as goal

-- the union was given the days so far
abbrev pub invariant-loop-names : goal.invariant-loop-names
invariant-loop-names l = HasVisitors l.union (all_hashes (take l.names-index l.days))
