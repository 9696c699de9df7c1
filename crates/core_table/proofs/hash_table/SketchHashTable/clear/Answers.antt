use Rattle.std.proofs.Common.{◌≡◌, map, length, sym, ◌∙◌, rules, arith}
use Rattle.core_slots.proofs.Held.{length-content}
use Rattle.core_table.proofs.Counting.{counted_fewer}
use Rattle.core_table.proofs.Slotted.{slotted_cleared}
use Rattle.core_table.proofs.hash_table.SketchHashTable.clear.Goals as goal

pub invariant_of-self : goal.invariant_of-self
invariant_of-self g c =
    let content = g.E.PathEntry.content in
    let slots = c.self.inside.slots.items in
    let after = c.clear_slots.new.slots.items in
    let same : length after ≡ length slots = search rules in
    record {
      slotted = slotted_cleared g.E.SketchEntry.key _ c.self.inside.lg_cur_size _ c.self.inside.count (map content slots) (map content after) c.self.invariant.slotted c.clear_slots.ensures.free (length-content content after ∙ same ∙ sym (length-content content slots));
      bounded = c.self.invariant.bounded;
      counted = counted_fewer c.self.inside.lg_cur_size c.self.inside.lg_nom_size c.self.inside.count _ c.self.invariant.counted 0 (omega arith);
    }
