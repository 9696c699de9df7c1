use Rattle.keys_lines.specs.Lines.{lines_of_all}
use Rattle.keys_sketches.specs.Sources.{Continues}
use Rattle.keys_groups.specs.Names.{AreNamed}
use Rattle.keys_groups.specs.States.{IsGrouped}
use Rattle.keys_groups.proofs.reading.group_sources.Given as goal

-- the lines of the texts that were read are in their groups, and the others are left
abbrev pub invariant-loop : goal.invariant-loop
invariant-loop g l = record {
  named : AreNamed l.groups.index l.groups.entries.items;
  read : Continues (g.S.Sources.texts l.fn.sources) (g.S.Sources.texts l.sources) (λ taken. IsGrouped l.grouping (lines_of_all taken) l.groups.entries.items);
}
