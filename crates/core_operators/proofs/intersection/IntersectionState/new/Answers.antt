use Rattle.std.proofs.Common.{arith}
use Rattle.core_operators.proofs.Outcomes.{none_retained}
use Rattle.core_operators.proofs.intersection.IntersectionState.new.Goals as goal

pub invariant_of-result : goal.invariant_of-result
invariant_of-result g c = rw c.new.ensures.items (record { intersection = record { limited = omega arith }; retained = none_retained g.E.SketchEntry.key })
