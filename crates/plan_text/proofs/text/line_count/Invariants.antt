use Rattle.std.proofs.Common.{◌≡◌, ◌+◌, length}
use Rattle.keys_lines.specs.Lines.{lines_of}
use Rattle.plan_text.proofs.text.line_count.Given as goal

abbrev pub invariant-loop-after : goal.invariant-loop-after
invariant-loop-after l = l.count + length (lines_of l.rest) ≡ length (lines_of l.text)

abbrev pub decreases-loop-after : goal.decreases-loop-after
decreases-loop-after l = length (lines_of l.rest)
