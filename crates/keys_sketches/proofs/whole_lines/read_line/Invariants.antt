use Rattle.std.proofs.Common.{◌≡◌, ◌≤◌, false, vec_len}
use Rattle.keys_sketches.specs.WholeLines.{Continues}
use Rattle.keys_sketches.proofs.whole_lines.read_line.Given as goal

-- what was read so far is the front of the line
abbrev pub invariant-loop : goal.invariant-loop
invariant-loop g l =
    (l.start ≡ vec_len l.initial.line) × (l.start ≤ vec_len l.line)
    × Continues false (g.R.Read.remaining l.initial.reader) (g.R.Read.remaining l.reader) l.initial.line.items l.line.items
