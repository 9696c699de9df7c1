use Rattle.std.proofs.Common.{◌≡◌, length, map, take, arith}
use Rattle.core_slots.specs.SlotLayout.{filled}
use Rattle.core_slots.proofs.Lookups.{left_out-first, left_more, packed_pass}
use Rattle.core_slots.proofs.lookup.drop_retained.Goals as goal

pub loop-step-init : goal.loop-step-init
loop-step-init g c =
    let size : length c.pack_unscreened-left.new.hashes ≡ length c.args.hashes.now = c.pack_unscreened-left.auto.hashes in
    record {
      size = size;
      limited = omega (arith, c.pack_unscreened-left.ensures.limited, size);
      unscreened = rw c.pack_unscreened-left.ensures.packed (packed_pass c.args.theta c.args.hashes.now);
      others_out = left_out-first g.E.SketchEntry.key (filled (map g.E.PathEntry.content c.args.slots.now)) c.args.theta c.args.hashes.now (take c.pack_unscreened-left.result c.pack_unscreened-left.new.hashes) c.pack_unscreened-left.ensures.packed;
    }

pub loop-step-preserved : goal.loop-step-preserved
loop-step-preserved g c =
    left_more g.E.SketchEntry.key (filled (map g.E.PathEntry.content c.args.slots.now)) c.args.theta c.args.hashes.now c.loop-step.hashes c.blank_retained.new.hashes c.pack_unscreened-left-in-loop-step.new.hashes c.loop-step.left c.pack_unscreened-left-in-loop-step.result
    c.loop-step.invariant c.blank_retained.auto.hashes c.blank_retained.ensures.blanked c.pack_unscreened-left-in-loop-step.auto.hashes c.pack_unscreened-left-in-loop-step.ensures.limited c.pack_unscreened-left-in-loop-step.ensures.packed
