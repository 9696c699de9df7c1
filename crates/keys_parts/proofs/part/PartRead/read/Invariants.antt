use Rattle.std.specs.Io.KnownBytes.{Keeps}
use Rattle.keys_parts.specs.Stages.{part_remaining}
use Rattle.keys_parts.proofs.part.PartRead.read.Given as goal

-- no byte of the part is read so far
abbrev pub invariant-loop : goal.invariant-loop
invariant-loop g l = Keeps (part_remaining g.R.Read.remaining l.fn.self) (part_remaining g.R.Read.remaining l.self)
