use Rattle.std.specs.Io.KnownBytes.{Consumes}
use Rattle.plan_runs.proofs.runs.read_all.Given as goal

-- the bytes read so far were at the front
abbrev pub invariant-loop : goal.invariant-loop
invariant-loop g l = Consumes (g.R.Read.remaining l.fn.reader) (g.R.Read.remaining l.reader) l.text.items
