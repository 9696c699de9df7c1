use Rattle.std.proofs.Common.{◌≡◌, ◌+◌, ◌∷◌, length, refl, ap, arith}
use Rattle.core_slots.specs.SlotLayout.{entries_in}
use Rattle.core_table.proofs.FilledTables.{still_all, one_counted, one_ticked, all_held}
use Rattle.core_table.proofs.hash_table.slots_holding.Goals as goal

pub loop-entry-init : goal.loop-entry-init
loop-entry-init g c =
    let all : c.into_iter-entry-iterator.result.rest.items ≡ c.args.entries.items = c.into_iter-entry-iterator.ensures.into_iter_gives.0 in
    let done = c.args.counts.now in
    let begins : done.inserted ≡ done.inserted + 0 = omega arith in
    let first : done.fresh ≡ done.fresh + 0 = omega arith in
    rw (all, c.in_ok-slots.ensures.items) (record { held = refl; nonzero = c.requires.nonzero; ticked = λ i. record done { inserted = begins i; fresh = first i } })

pub loop-entry-preserved : goal.loop-entry-preserved
loop-entry-preserved g c =
    let content = g.E.PathEntry.content in
    let was = c.loop-entry.slots.items in
    let shape : c.loop-entry.entry-iterator.rest.items ≡ c.in-Some.entry ∷ c.next.new.self.rest.items = c.in-Some.ensures.steps.0 in
    let nonzero = rw shape at c.loop-entry.invariant.nonzero in
    let many = one_counted content was c.into_slot.result c.in-Some.entry c.into_slot.ensures in
    rw (c.in_ok-push.ensures.items) (record {
      held = still_all content was c.into_slot.result c.in-Some.entry c.next.new.self.rest.items c.args.entries.items c.into_slot.ensures (rw shape at c.loop-entry.invariant.held);
      nonzero = nonzero.1;
      ticked = one_ticked c.args.counts.now c.loop-entry.counts _ _ c.tick.new.self c.tick-in-loop-entry.new.self c.loop-entry.invariant.ticked many c.tick.ensures c.tick-in-loop-entry.ensures;
    })

pub returns-clause-held : goal.returns-clause-held
returns-clause-held g c =
    all_held (entries_in g.E.PathEntry.content c.loop-entry.slots.items) c.loop-entry.entry-iterator.rest.items c.args.entries.items (omega (arith, c.in-None.ensures.steps.0, c.loop-entry.entry-iterator.rest.ok)) c.loop-entry.invariant.held

pub returns-clause-ticked : goal.returns-clause-ticked
returns-clause-ticked g c =
    let all = ap length (returns-clause-held g c) in
    rw all at c.loop-entry.invariant.ticked
