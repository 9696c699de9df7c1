use Rattle.core_table.proofs.Slotted.{slotted_sequence, slotted_fits}
use Rattle.core_table.proofs.hash_table.SketchHashTable.iter_entries.Goals as goal

pub returns-clause-each_once : goal.returns-clause-each_once
returns-clause-each_once g c = rw (← c.self.view_is) (slotted_sequence g.E.SketchEntry.key _ _ _ _ _ c.self.invariant.slotted)

pub returns-clause-fits : goal.returns-clause-fits
returns-clause-fits g c = rw (← c.self.view_is) (slotted_fits g.E.SketchEntry.key _ _ _ _ _ c.self.invariant.slotted)
