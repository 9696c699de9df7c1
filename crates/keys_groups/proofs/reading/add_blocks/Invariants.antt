use Rattle.std.proofs.Common.{ℕ, List, []}
use Rattle.std.specs.Io.KnownBytes.{Consumes}
use Rattle.keys_groups.specs.Names.{AreNamed}
use Rattle.keys_groups.specs.Reading.{TakesLines}
use Rattle.keys_groups.specs.States.{IsGrouped}
use Rattle.keys_groups.proofs.reading.add_blocks.Given as goal

-- the bytes read so far are the front of the text, and their lines are in their groups but for an open line
abbrev pub invariant-loop : goal.invariant-loop
invariant-loop g l = record {
  named : AreNamed l.groups.index l.groups.entries.items;
  read : (read : List ℕ) × Consumes (g.R.Read.remaining l.fn.reader) (g.R.Read.remaining l.reader) read
      × ((before : List (List ℕ)) → IsGrouped l.grouping before l.fn.groups.entries.items → TakesLines l.grouping before [] read l.groups.entries.items l.begun.items);
}
