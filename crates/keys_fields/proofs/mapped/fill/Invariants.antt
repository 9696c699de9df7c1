use Rattle.keys_fields.specs.Ahead.{ahead_remaining}
use Rattle.keys_fields.specs.Passing.{bytes_for, is_left_out}
use Rattle.keys_fields.specs.Mapping.{SameLeft}
use Rattle.keys_fields.proofs.mapped.fill.Given as goal

-- what was left is left
abbrev pub invariant-loop : goal.invariant-loop
invariant-loop g l =
    SameLeft (bytes_for l.fn.passing) (is_left_out l.fn.passing) l.fn.waiting.items l.fn.left_out l.fn.begun.items (ahead_remaining g.R.Read.remaining l.fn.ahead) l.waiting.items l.left_out l.begun.items (ahead_remaining g.R.Read.remaining l.ahead)
