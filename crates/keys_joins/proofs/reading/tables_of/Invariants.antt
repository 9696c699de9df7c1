use Rattle.keys_sketches.specs.Sources.{Continues}
use Rattle.keys_joins.specs.Reading.{AreTables}
use Rattle.keys_joins.proofs.reading.tables_of.Given as goal

-- the tables so far are those of the texts that were read, and the other texts are left
abbrev pub invariant-loop : goal.invariant-loop
invariant-loop g l = Continues (g.S.Sources.texts l.fn.sources) (g.S.Sources.texts l.sources) (λ taken. AreTables l.seed l.lg_k taken l.tables.items)
