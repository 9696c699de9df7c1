use Rattle.std.proofs.Common.{◌++◌}
use Rattle.keys_sketches.specs.Keys.{HaveSameLines}
use Rattle.keys_groups.specs.Names.{texts_of}
use Rattle.keys_joins.proofs.tables.SketchTable.put_names.Given as goal

-- the names that are left, and those that were put, are all names
abbrev pub invariant-loop-name : goal.invariant-loop-name
invariant-loop-name l = HaveSameLines (texts_of l.name-iterator ++ texts_of l.names.entries) (texts_of l.self.map.entries ++ texts_of l.fn.names.entries)
