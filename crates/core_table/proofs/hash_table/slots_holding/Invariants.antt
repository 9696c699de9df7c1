use Rattle.std.proofs.Common.{◌≡◌, ◌<◌, ◌+◌, ◌++◌, length}
use Rattle.std.specs.List.{AllByRecursion}
use Rattle.core_slots.specs.SlotLayout.{entries_in}
use Rattle.core_table.proofs.hash_table.slots_holding.Given as goal

-- the slots so far hold the entries before the rest, and each is counted
abbrev pub invariant-loop-entry : goal.invariant-loop-entry
invariant-loop-entry g l = record {
  held : entries_in g.E.PathEntry.content l.slots.items ++ l.entry-iterator.rest.items ≡ l.fn.entries.items;
  nonzero : AllByRecursion (λ x. 0 < g.E.SketchEntry.key x) l.entry-iterator.rest.items;
  ticked : l.counts ≡ record l.initial.counts { inserted = l.initial.counts.inserted + length (entries_in g.E.PathEntry.content l.slots.items); fresh = l.initial.counts.fresh + length (entries_in g.E.PathEntry.content l.slots.items) };
}
