use Rattle.core_slots.proofs.Held.{filled_most}
use Rattle.core_table.proofs.iter.SketchHashTableIterIterator.size_hint.Goals as goal

pub returns-clause-upper : goal.returns-clause-upper
returns-clause-upper g c = rw (← c.self.view_is) (tt, filled_most g.E.PathEntry.content c.self.inside.rest.slots.now)
