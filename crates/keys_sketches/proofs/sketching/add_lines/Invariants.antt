use Rattle.std.proofs.Common.{ℕ, List, []}
use Rattle.std.specs.Io.KnownBytes.{Consumes}
use Rattle.keys_sketches.specs.Keys.{line_state}
use Rattle.keys_lines.specs.Open.{IsOpen}
use Rattle.keys_sketches.specs.Taking.{Takes}
use Rattle.keys_sketches.proofs.sketching.add_lines.Given as goal

-- the bytes read so far are the front of the text, and their lines are inserted but for an open line
abbrev pub invariant-loop : goal.invariant-loop
invariant-loop g l = (read : List ℕ) × (front : List ℕ) × Consumes (g.R.Read.remaining l.fn.reader) (g.R.Read.remaining l.reader) read × IsOpen l.hashing front l.last × Takes l.hashing (line_state l.fn.sketch) [] read (line_state l.sketch) front
