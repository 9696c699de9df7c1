use Rattle.core_table.proofs.Slotted.{slotted_count, slotted_sequence}
use Rattle.core_table.proofs.hash_table.SketchHashTable.num_retained.Goals as goal

pub returns-clause-count : goal.returns-clause-count
returns-clause-count g c = rw (← c.self.view_is) (slotted_count g.E.SketchEntry.key _ _ _ _ _ c.self.invariant.slotted)

pub returns-clause-each_once : goal.returns-clause-each_once
returns-clause-each_once g c = rw (← c.self.view_is) (slotted_sequence g.E.SketchEntry.key _ _ _ _ _ c.self.invariant.slotted)
