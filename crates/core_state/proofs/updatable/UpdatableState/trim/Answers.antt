use Rattle.core_state.proofs.UpdatableValue.{updatable-trimmed, updatable-same}
use Rattle.core_state.proofs.updatable.UpdatableState.trim.Goals as goal

pub invariant_of-self : goal.invariant_of-self
invariant_of-self g c = updatable-same g.E.SketchEntry.key _ _ _ c.self.invariant c.in_err-trim.ensures.err

pub invariant_of-self-2 : goal.invariant_of-self-2
invariant_of-self-2 g c = updatable-trimmed g.E.SketchEntry.key _ _ _ c.self.invariant c.in_ok-trim.ensures.after
