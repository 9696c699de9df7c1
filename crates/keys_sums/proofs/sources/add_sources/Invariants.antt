use Rattle.std.proofs.Common.{ℕ, []}
use Rattle.keys_lines.specs.Lines.{lines_of_all}
use Rattle.keys_sketches.specs.Sources.{Continues}
use Rattle.keys_sums.specs.Sums.{HasAdded}
use Rattle.tuple_sketches.specs.declared.numbers.SummaryMode.{SummaryMode}
use Rattle.keys_sums.proofs.sources.add_sources.Given as goal

-- the lines of the texts so far are added
abbrev pub invariant-loop : goal.invariant-loop
invariant-loop g l = record {
  parted : Continues (g.S.Sources.texts l.fn.sources) (g.S.Sources.texts l.sources) (λ taken. Unit {0});
  added :
      (mode : SummaryMode) (lg_k : ℕ) → HasAdded mode l.hashing l.amount lg_k [] l.fn.summation
      → Continues (g.S.Sources.texts l.fn.sources) (g.S.Sources.texts l.sources) (λ taken. HasAdded mode l.hashing l.amount lg_k (lines_of_all taken) l.summation);
}
