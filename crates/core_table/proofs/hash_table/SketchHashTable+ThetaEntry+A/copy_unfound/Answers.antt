use Rattle.std.proofs.Common.{length, map, drop}
use Rattle.core_slots.specs.SlotLayout.{filled}
use Rattle.core_slots.specs.HashSlots.{hash_entry}
use Rattle.core_table.proofs.ManyHashes.{left_in_block}
use Rattle.core_table.proofs.hash_table.SketchHashTable+ThetaEntry+A.copy_unfound.Goals as goal

pub returns-clause-left : goal.returns-clause-left
returns-clause-left g c =
    rw (← c.self.view_is)
    (left_in_block (filled (map hash_entry c.self.inside.slots.items)) c.self.inside.theta c.args.hashes.now c.copy_from_slice.new.self c.drop_retained.new.hashes (drop (length c.args.hashes.now) c.args.block.now) c.drop_retained.result
    c.copy_from_slice.ensures.after c.drop_retained.ensures.limited c.drop_retained.auto.hashes (rw (← c.deref.ensures.value) c.drop_retained.ensures.left))
