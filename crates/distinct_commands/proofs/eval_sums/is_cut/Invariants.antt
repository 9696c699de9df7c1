use Rattle.std.proofs.Common.{◌≡◌, length}
use Rattle.distinct_commands.specs.Eval.{is_cut}
use Rattle.distinct_commands.proofs.eval_sums.is_cut.Given as goal

-- the result was cut if its theta is below those of the sketches that are left
abbrev pub invariant-loop-sketch : goal.invariant-loop-sketch
invariant-loop-sketch l = is_cut l.evaluated l.rest ≡ is_cut l.evaluated l.sketches

abbrev pub decreases-loop-sketch : goal.decreases-loop-sketch
decreases-loop-sketch l = length l.rest
