use Rattle.std.proofs.Common.{◌≡◌, map, ap, ◌∙◌}
use Rattle.core_laws.specs.Maps.{map_of, below}
use Rattle.core_laws.proofs.cuts.Cuts.{below_all}
use Rattle.core_slots.specs.SlotLayout.{filled}
use Rattle.core_slots.proofs.Gathers.{apart-below, map_of-below}
use Rattle.core_table.proofs.Slotted.{slotted_sequence}
use Rattle.core_table.proofs.hash_table.SketchHashTable.sorted_entries.Goals as goal

pub sorted_by_hash-requires : goal.sorted_by_hash-requires
sorted_by_hash-requires g c =
    let key = g.E.SketchEntry.key in
    let xs = filled (map g.E.PathEntry.content c.self.inside.slots.items) in
    let listed : c.in_ok-entries.entries.items ≡ below key xs c.self.inside.theta = rw c.deref.ensures.value at c.in_ok-entries.ensures.listed in
    rw listed (apart-below key xs c.self.inside.theta (slotted_sequence key _ _ _ _ _ c.self.invariant.slotted).apart)

pub returns-clause-listed : goal.returns-clause-listed
returns-clause-listed g c =
    let key = g.E.SketchEntry.key in
    let xs = filled (map g.E.PathEntry.content c.self.inside.slots.items) in
    let own = c.self.inside.theta in
    let listed : c.in_ok-entries.entries.items ≡ below key xs own = rw c.deref.ensures.value at c.in_ok-entries.ensures.listed in
    rw (← c.self.view_is) (c.sorted_by_hash.ensures ∙ ap (map_of key) listed ∙ map_of-below key xs own ∙ below_all key (map_of key xs) own c.self.invariant.slotted.table.kept.below_theta)
