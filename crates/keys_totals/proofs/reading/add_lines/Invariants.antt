use Rattle.std.proofs.Common.{ℕ, ◌≡◌, List, ◌++◌, length}
use Rattle.std.specs.Io.Buffered.{reader_remaining}
use Rattle.keys_groups.specs.Reading.{ContinuesLines}
use Rattle.keys_totals.specs.Totals.{AreTotalled}
use Rattle.keys_totals.proofs.reading.add_lines.Given as goal

-- the lines that were read are counted, what they add is added behind the lines before, and the other lines are left
abbrev pub invariant-loop-passed : goal.invariant-loop-passed
invariant-loop-passed g l = record {
  parted : ContinuesLines (g.R.Read.remaining l.fn.reader) (reader_remaining g.R.Read.remaining l.buffered) (λ taken. length taken ≡ l.passed);
  added :
      (before : List (List ℕ)) → AreTotalled l.by l.amount before l.fn.totals.map
      → ContinuesLines (g.R.Read.remaining l.fn.reader) (reader_remaining g.R.Read.remaining l.buffered) (λ taken. AreTotalled l.by l.amount (before ++ taken) l.totals.map);
}
