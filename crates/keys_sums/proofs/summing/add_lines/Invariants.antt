use Rattle.std.proofs.Common.{ℕ, List, []}
use Rattle.std.specs.Io.KnownBytes.{Consumes}
use Rattle.keys_sums.specs.Reading.{HasTaken}
use Rattle.keys_sums.proofs.summing.add_lines.Given as goal

-- the bytes read so far are the front of the text, and their lines are added but for an open line
abbrev pub invariant-loop : goal.invariant-loop
invariant-loop g l =
    (read : List ℕ) × Consumes (g.R.Read.remaining l.fn.reader) (g.R.Read.remaining l.reader) read
    × HasTaken l.hashing l.amount [] read l.fn.summation l.summation l.last 0 l.count
