-- The final value of an entry whose summary is borrowed to be written.
use Rattle.std.specs.Borrow.{Lends, Fml, RattleType, MutBor}
use Rattle.core_slots.specs.contracts.entry.TupleEntry.{the_row}
use Rattle.core_slots.specs.declared.entry.TupleEntry.{TupleEntry}
use Rattle.core_slots.specs.Entry.{with_summary}

-- once the borrow r ends, the entry has the summary last written through r
abbrev pub borrows_summary : (S : RattleType) → MutBor (TupleEntry S.Denot) → MutBor S.Denot → Fml
borrows_summary S e r = Lends (the_row S) S e r (λ s. with_summary e.now s)
