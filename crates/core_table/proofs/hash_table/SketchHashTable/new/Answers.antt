use Rattle.std.proofs.Common.{map, ◌∙◌, arith}
use Rattle.core_table.proofs.Counting.{counted_nothing}
use Rattle.core_slots.proofs.Held.{length-content}
use Rattle.core_table.proofs.Slotted.{slotted_new}
use Rattle.core_table.proofs.hash_table.SketchHashTable.new.Goals as goal

pub invariant_of-result : goal.invariant_of-result
invariant_of-result g c =
    let content = g.E.PathEntry.content in
    record {
      slotted = slotted_new g.E.SketchEntry.key c.args.lg_nom_size c.args.starting_theta c.args.seed c.in_ok-seed_hash.seed_hash c.args.starting_theta c.starting_size-lg_cur_size.result _ (map content c.in_ok-slots.slots.items)
          c.in_ok-slots.ensures.free (length-content content c.in_ok-slots.slots.items ∙ c.in_ok-slots.ensures.size) (rw c.lg_value.ensures at c.starting_size-lg_cur_size.ensures.sized) (omega arith) (omega arith)
          (record {
            lg_nom_high = omega arith;
            start_low = omega arith;
            start_high = omega arith;
            of_seed = c.in_ok-seed_hash.ensures.ok;
            hash_low = rw c.in_ok-seed_hash.ensures.ok (omega (arith, c.in_ok-seed_hash.ensures.nonzero));
          });
      bounded = c.threshold_of.ensures;
      counted = rw c.nothing.ensures (counted_nothing c.starting_size-lg_cur_size.result c.args.lg_nom_size);
    }
