use Rattle.keys_lines.specs.Lines.{lines_of_all}
use Rattle.keys_sketches.specs.Sources.{Continues}
use Rattle.keys_totals.specs.Totals.{AreTotalled}
use Rattle.keys_totals.proofs.reading.total_groups.Given as goal

-- what the lines of the texts so far add is added, and the other texts are left
abbrev pub invariant-loop : goal.invariant-loop
invariant-loop g l = record {
  parted : Continues (g.S.Sources.texts l.fn.sources) (g.S.Sources.texts l.sources) (λ taken. Unit {0});
  added : Continues (g.S.Sources.texts l.fn.sources) (g.S.Sources.texts l.sources) (λ taken. AreTotalled l.by l.amount (lines_of_all taken) l.totals.map);
}
