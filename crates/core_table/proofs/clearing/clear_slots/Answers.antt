use Rattle.std.proofs.Common.{◌∙◌, length-set, arith}
use Rattle.core_slots.proofs.Held.{freed}
use Rattle.core_table.proofs.clearing.clear_slots.Goals as goal

pub loop-at-preserved : goal.loop-at-preserved
loop-at-preserved g c =
    let was = c.loop-at.invariant in
    let slots = c.loop-at.slots.items in (
      length-set slots c.loop-at.at c.free_slot.result ∙ was.0,
      freed g.E.PathEntry.content slots c.loop-at.at c.free_slot.result (omega (arith, was.0, c.loop-at-test.true)) c.free_slot.ensures was.1,
    )
