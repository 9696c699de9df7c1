use Rattle.std.proofs.Common.{map, ◌∙◌}
use Rattle.core_slots.proofs.Held.{length-content}
use Rattle.core_table.proofs.Counting.{counted_nothing}
use Rattle.core_table.proofs.Slotted.{at_least_starting, slotted_resized}
use Rattle.core_table.proofs.hash_table.SketchHashTable.reset.Goals as goal

pub clear_slots-requires : goal.clear_slots-requires
clear_slots-requires g c =
    let key = g.E.SketchEntry.key in
    let content = g.E.PathEntry.content in
    let least = at_least_starting key _ c.self.inside.lg_cur_size _ c.self.inside.count (map content c.self.inside.slots.items) c.self.invariant.slotted (rw (← c.self.view_is) at c.requires.of_sketch) in
    rw (c.nominal_size.ensures.power, c.starting_size-lg_cur_size.ensures.value, c.lg_value.ensures, ← length-content content c.self.inside.slots.items) least.1

pub invariant_of-self : goal.invariant_of-self
invariant_of-self g c =
    let key = g.E.SketchEntry.key in
    let content = g.E.PathEntry.content in
    let after = c.clear_slots.new.slots.items in
    let least = at_least_starting key _ c.self.inside.lg_cur_size _ c.self.inside.count (map content c.self.inside.slots.items) c.self.invariant.slotted (rw (← c.self.view_is) at c.requires.of_sketch) in
    let made = c.self.invariant.slotted.table.made in
    record {
      slotted = slotted_resized key _ c.self.inside.lg_cur_size _ c.self.inside.count c.starting_size-lg_cur_size.result c.self.inside.starting_theta (map content c.self.inside.slots.items) (map content after) c.self.invariant.slotted least.0
          c.clear_slots.ensures.free (length-content content after ∙ c.clear_slots.ensures.size ∙ c.nominal_size.ensures.power) (rw c.lg_value.ensures at c.starting_size-lg_cur_size.ensures.sized) made.start_low made.start_high;
      bounded = rw least.0 c.threshold_of-self-inside.ensures;
      counted = rw c.nothing.ensures (counted_nothing c.starting_size-lg_cur_size.result c.self.inside.lg_nom_size);
    }
