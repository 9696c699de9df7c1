-- What contracts see of a tuple sketch that takes updates, and of a union of tuple sketches, beside their policies.
use Rattle.core_operators.specs.Union.{Union}
use Rattle.core_slots.specs.declared.entry.TupleEntry.{TupleEntry}
use Rattle.core_state.specs.Updatable.{Updatable}
use Rattle.tuple_sketches.specs.declared.sketch.TupleSketch.{TupleSketch}
use Rattle.tuple_sketches.specs.declared.union.TupleUnion.{TupleUnion}

-- the state of a sketch: whether it is empty, its table, and its entries in the order of its iterator
abbrev pub sketch_state : {P A S : Type 0} → TupleSketch P A S → Updatable (TupleEntry S)
sketch_state t = t.state

-- the state of a union: its retained entries and theta, whether it is empty or has failed, and its settings
abbrev pub union_state : {P A S : Type 0} → TupleUnion P A S → Union (TupleEntry S) P
union_state u = u.state
