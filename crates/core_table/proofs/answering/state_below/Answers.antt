use Rattle.std.proofs.Common.{◌≡◌, true, false, map, length, sym, ◌∙◌, rules}
use Rattle.core_compact.specs.CompactState.{is_answer_ordered}
use Rattle.core_laws.specs.Maps.{below}
use Rattle.core_slots.specs.SlotLayout.{filled}
use Rattle.core_slots.proofs.Gathers.{apart-below}
use Rattle.core_table.proofs.ListedBelow.{shown_listed, shown_sorted, answer_listed, answer_sorted}
use Rattle.core_table.proofs.answering.state_below.Goals as goal

pub sorted_by_hash-requires : goal.sorted_by_hash-requires
sorted_by_hash-requires g c = rw c.in_ok-entries.ensures.listed (apart-below g.E.SketchEntry.key (filled (map g.E.PathEntry.content c.args.slots.now)) c.args.theta c.requires.apart)

pub non_empty-requires : goal.non_empty-requires
non_empty-requires g c =
    rw (c.sorted_by_hash.ensures, c.in_ok-entries.ensures.listed) (shown_sorted g.E.SketchEntry.key (filled (map g.E.PathEntry.content c.args.slots.now)) c.args.theta c.args.seed_hash c.requires.apart c.requires.sound c.requires.limited)

pub non_empty-requires-2 : goal.non_empty-requires-2
non_empty-requires-2 g c =
    rw c.in_ok-entries.ensures.listed (shown_listed g.E.SketchEntry.key (filled (map g.E.PathEntry.content c.args.slots.now)) c.args.theta c.args.seed_hash c.requires.apart c.requires.sound c.requires.limited)

pub returns-then-in_order-clause-ok : goal.returns-then-in_order-clause-ok
returns-then-in_order-clause-ok g c =
    let key = g.E.SketchEntry.key in
    let content = filled (map g.E.PathEntry.content c.args.slots.now) in
    let count : c.len.result ≡ length c.in_ok-entries.entries.items = search rules in
    let ascends : is_answer_ordered c.args.ordered (length (below key content c.args.theta)) c.args.theta ≡ true =
    rw (← c.in_ok-entries.ensures.listed, ← count) (sym c.is_answer_ordered-in_order.ensures ∙ c.if-in_order.true) in
    rw (c.non_empty.ensures, c.sorted_by_hash.ensures, c.in_ok-entries.ensures.listed) (answer_sorted key content c.args.theta c.args.seed_hash c.requires.apart c.args.ordered ascends)

pub returns-clause-ok : goal.returns-clause-ok
returns-clause-ok g c =
    let key = g.E.SketchEntry.key in
    let content = filled (map g.E.PathEntry.content c.args.slots.now) in
    let count : c.len.result ≡ length c.in_ok-entries.entries.items = search rules in
    let as_they_stand : is_answer_ordered c.args.ordered (length (below key content c.args.theta)) c.args.theta ≡ false =
    rw (← c.in_ok-entries.ensures.listed, ← count) (sym c.is_answer_ordered-in_order.ensures ∙ c.if-in_order.false) in
    rw (c.non_empty-2.ensures, c.in_ok-entries.ensures.listed) (answer_listed key content c.args.theta c.args.seed_hash c.requires.apart c.args.ordered as_they_stand)
