use Rattle.std.proofs.Common.{map, refl, ◌∙◌}
use Rattle.core_slots.proofs.Held.{length-content}
use Rattle.core_table.proofs.Counting.{counted_nothing}
use Rattle.core_table.proofs.Slotted.{slotted_operator}
use Rattle.core_table.proofs.Tables.{operator_threshold}
use Rattle.core_table.proofs.hash_table.SketchHashTable.for_set_operation.Goals as goal

pub invariant_of-result : goal.invariant_of-result
invariant_of-result g c =
    let content = g.E.PathEntry.content in
    let slots = c.in_ok-slots.slots.items in
    record {
      slotted = slotted_operator g.E.SketchEntry.key c.args.lg_cur_size c.args.lg_nom_size c.args.retention_theta c.args.seed c.args.seed_hash (map content slots) c.requires.sized c.requires.size_high c.requires.theta_low c.requires.theta_high c.requires.of_seed
          (length-content content slots ∙ c.in_ok-slots.ensures.size) c.in_ok-slots.ensures.free;
      bounded = c.threshold_of.ensures ∙ operator_threshold c.args.lg_cur_size c.args.lg_nom_size c.requires.sized;
      counted = rw c.nothing.ensures (counted_nothing c.args.lg_cur_size c.args.lg_nom_size);
    }

pub returns-clause-fixed : goal.returns-clause-fixed
returns-clause-fixed g c = refl
