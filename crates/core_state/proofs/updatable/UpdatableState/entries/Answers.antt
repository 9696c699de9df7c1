use Rattle.core_state.proofs.UpdatableValue.{shown-sketch}
use Rattle.core_state.proofs.updatable.UpdatableState.entries.Goals as goal

pub returns-clause-sound : goal.returns-clause-sound
returns-clause-sound g c = rw (← c.self.view_is) (shown-sketch g.E.SketchEntry.key _ c.self.invariant c.of_table.ensures.sound c.of_table.ensures.each_once)
