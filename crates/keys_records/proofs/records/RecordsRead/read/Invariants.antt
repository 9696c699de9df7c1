use Rattle.std.proofs.Common.{[]}
use Rattle.keys_records.specs.Stages.{Passes}
use Rattle.keys_records.proofs.records.RecordsRead.read.Given as goal

-- what was left is left
abbrev pub invariant-loop : goal.invariant-loop
invariant-loop g l = Passes g.R.Read.remaining l.fn.self l.self []
