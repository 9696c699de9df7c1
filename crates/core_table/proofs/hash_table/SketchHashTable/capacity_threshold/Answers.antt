use Rattle.std.proofs.Common.{arith}
use Rattle.core_table.proofs.Slotted.{slotted_count}
use Rattle.core_table.proofs.Counting.{rebuilds_few, placed_few}
use Rattle.core_table.proofs.hash_table.SketchHashTable.capacity_threshold.Goals as goal

pub returns-clause-threshold : goal.returns-clause-threshold
returns-clause-threshold g c = rw (← c.self.view_is) (λ has. rw has at c.self.invariant.bounded)

pub returns-clause-none : goal.returns-clause-none
returns-clause-none g c = rw (← c.self.view_is) (λ lacks. rw lacks at c.self.invariant.bounded)

pub returns-clause-limited : goal.returns-clause-limited
returns-clause-limited g c = rw (← c.self.view_is) (λ has. omega (arith, slotted_count g.E.SketchEntry.key _ _ _ _ _ c.self.invariant.slotted, (c.self.invariant.slotted.sized has).limited))

pub returns-clause-rebuilds : goal.returns-clause-rebuilds
returns-clause-rebuilds g c = rw (← c.self.view_is) (rebuilds_few _ _ _ _ c.self.invariant.counted)

pub returns-clause-placed : goal.returns-clause-placed
returns-clause-placed g c = rw (← c.self.view_is) (placed_few _ _ _ _ c.self.invariant.counted)

pub returns-clause-free : goal.returns-clause-free
returns-clause-free g c = rw (← c.self.view_is) (λ has. omega (arith, slotted_count g.E.SketchEntry.key _ _ _ _ _ c.self.invariant.slotted, (c.self.invariant.slotted.sized has).room, (c.self.invariant.slotted.laid_out has).size))

pub returns-clause-slotless : goal.returns-clause-slotless
returns-clause-slotless g c = rw (← c.self.view_is) (λ lacks. c.self.invariant.slotted.without lacks)
