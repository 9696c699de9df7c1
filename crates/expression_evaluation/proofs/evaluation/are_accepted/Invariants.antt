use Rattle.std.proofs.Common.{◌≡◌, drop}
use Rattle.expression_evaluation.specs.Running.{are_accepted}
use Rattle.expression_evaluation.proofs.evaluation.are_accepted.Given as goal

-- all are accepted if those that are left are
abbrev pub invariant-loop-sketch : goal.invariant-loop-sketch
invariant-loop-sketch g l = are_accepted g.F.SetFamily.named l.hash l.sketches ≡ are_accepted g.F.SetFamily.named l.hash (drop l.sketch-index l.sketches)
