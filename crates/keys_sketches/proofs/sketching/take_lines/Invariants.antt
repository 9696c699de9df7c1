use Rattle.std.proofs.Common.{length}
use Rattle.keys_sketches.specs.Keys.{line_state}
use Rattle.keys_sketches.specs.Taking.{Leaves}
use Rattle.keys_sketches.proofs.sketching.take_lines.Given as goal

-- the lines so far are inserted, and the rest is left
abbrev pub invariant-loop-rest : goal.invariant-loop-rest
invariant-loop-rest g l = Leaves l.hashing (line_state l.fn.sketch) l.text (line_state l.sketch) l.rest

abbrev pub decreases-loop-rest : goal.decreases-loop-rest
decreases-loop-rest g l = length l.rest
