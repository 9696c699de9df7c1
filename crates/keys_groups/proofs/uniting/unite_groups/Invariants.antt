use Rattle.std.proofs.Common.{[]}
use Rattle.keys_lines.specs.Lines.{lines_of_all}
use Rattle.keys_sketches.specs.Sources.{Continues}
use Rattle.keys_groups.specs.United.{AreReady, AreAdded}
use Rattle.keys_groups.proofs.uniting.unite_groups.Given as goal

-- the images of the texts that were read are united and no line has a flaw, the groups are ready for more, and the other texts are left
abbrev pub invariant-loop : goal.invariant-loop
invariant-loop g l = record {
  added : Continues (g.S.Sources.texts l.fn.sources) (g.S.Sources.texts l.sources) (λ taken. AreAdded l.seed l.lg_k [] (lines_of_all taken) l.groups.map);
  ready : AreReady l.seed l.groups.map;
}
