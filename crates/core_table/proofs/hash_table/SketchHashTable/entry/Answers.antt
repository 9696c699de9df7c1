use Rattle.std.proofs.Common.{map, sym, ap, ◌∙◌}
use Rattle.core_laws.specs.Maps.{entry_at, map_of}
use Rattle.core_slots.specs.SlotLayout.{filled}
use Rattle.core_slots.proofs.Held.{slot-map, length-content}
use Rattle.core_slots.proofs.SlotLayouts.{search_finds}
use Rattle.core_table.proofs.hash_table.SketchHashTable.entry.Goals as goal

pub returns-then-not-has_slots : goal.returns-then-not-has_slots
returns-then-not-has_slots g c = rw (← c.self.view_is) (sym (ap (λ s. entry_at g.E.SketchEntry.key (map_of g.E.SketchEntry.key (filled s)) c.args.hash) (c.self.invariant.slotted.without c.if-not-has_slots.true)))

pub seek-place-requires-clause-size : goal.seek-place-requires-clause-size
seek-place-requires-clause-size g c = rw c.deref.ensures.value (sym (length-content g.E.PathEntry.content c.self.inside.slots.items) ∙ (c.self.invariant.slotted.laid_out c.if-not-has_slots.false).size)

pub returns : goal.returns
returns g c =
    let content = g.E.PathEntry.content in
    let found = rw c.deref.ensures.value at c.seek-place.ensures in
    let slots = map content c.self.inside.slots.items in
    rw (← c.self.view_is)
    (c.in_slot.ensures ∙ ap content c.index.ensures ∙ sym (slot-map content c.self.inside.slots.items c.seek-place.result.at c.index.result.now found.inside)
    ∙ sym (search_finds g.E.SketchEntry.key c.self.inside.lg_cur_size c.args.hash c.seek-place.result.at slots (c.self.invariant.slotted.laid_out c.if-not-has_slots.false) found.on_path found.ends))
