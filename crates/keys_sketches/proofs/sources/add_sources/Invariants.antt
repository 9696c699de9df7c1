use Rattle.keys_sketches.specs.Keys.{line_state}
use Rattle.keys_sketches.specs.Sources.{LeadsTo}
use Rattle.keys_sketches.proofs.sources.add_sources.Given as goal

-- inserting the texts that are left now gives the same as inserting all texts into the old sketch
abbrev pub invariant-loop : goal.invariant-loop
invariant-loop g l = LeadsTo l.hashing (g.S.Sources.texts l.fn.sources) (line_state l.fn.sketch) (g.S.Sources.texts l.sources) (line_state l.sketch)
