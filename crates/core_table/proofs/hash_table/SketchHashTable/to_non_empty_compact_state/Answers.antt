use Rattle.std.proofs.Common.{map, arith}
use Rattle.core_laws.specs.Maps.{map_of}
use Rattle.core_slots.specs.SlotLayout.{filled}
use Rattle.core_laws.proofs.cuts.Cuts.{below_all}
use Rattle.core_table.proofs.Slotted.{slotted_sequence}
use Rattle.core_laws.proofs.insertions.Cases.{IsRetained-below}
use Rattle.core_table.proofs.hash_table.SketchHashTable.to_non_empty_compact_state.Goals as goal

pub state_below-requires-clause-apart : goal.state_below-requires-clause-apart
state_below-requires-clause-apart g c = rw c.deref.ensures.value (slotted_sequence g.E.SketchEntry.key _ _ _ _ _ c.self.invariant.slotted).apart

pub state_below-requires-clause-sound : goal.state_below-requires-clause-sound
state_below-requires-clause-sound g c =
    let kept = c.self.invariant.slotted.table.kept in
    let m = map_of g.E.SketchEntry.key (filled (map g.E.PathEntry.content c.self.inside.slots.items)) in
    rw c.deref.ensures.value (IsRetained-below g.E.SketchEntry.key m c.self.inside.theta c.self.inside.theta kept kept.theta_low (omega arith))

pub state_below-requires-clause-limited : goal.state_below-requires-clause-limited
state_below-requires-clause-limited g c =
    let m = map_of g.E.SketchEntry.key (filled (map g.E.PathEntry.content c.self.inside.slots.items)) in
    rw (c.deref.ensures.value, below_all g.E.SketchEntry.key m c.self.inside.theta c.self.invariant.slotted.table.kept.below_theta) (rw (← c.self.view_is) at c.requires.count_fits)

pub returns-clause-ok : goal.returns-clause-ok
returns-clause-ok g c =
    let m = map_of g.E.SketchEntry.key (filled (map g.E.PathEntry.content c.self.inside.slots.items)) in
    rw (← c.self.view_is) (rw (c.deref.ensures.value, below_all g.E.SketchEntry.key m c.self.inside.theta c.self.invariant.slotted.table.kept.below_theta) at c.in_ok-state.ensures.ok)
