use Rattle.std.proofs.Common.{◌-◌, refl}
use Rattle.std.proofs.Math.Seq.{take-nil}
use Rattle.core_slots.specs.HashSlots.{hash_entry}
use Rattle.core_slots.proofs.Held.{filled-free}
use Rattle.core_slots.proofs.entry.ThetaEntryPathEntry.free_slots.Goals as goal

pub returns-clause-free : goal.returns-clause-free
returns-clause-free g c = rw (c.in_ok-resize.ensures.items, c.in_ok-slots.ensures.items, take-nil c.args.count) (filled-free hash_entry 0 refl (c.args.count - c.in_ok-slots.slots.len))
