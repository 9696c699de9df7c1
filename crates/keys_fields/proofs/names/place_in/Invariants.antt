use Rattle.std.proofs.Common.{◌+◌, ◌≤◌, length}
use Rattle.keys_fields.proofs.Headers.{IsAfter}
use Rattle.keys_fields.proofs.names.place_in.Given as goal

-- so many fields are passed, each of which a separator ended
abbrev pub invariant-loop-field : goal.invariant-loop-field
invariant-loop-field l = IsAfter l.fn.separator l.passed l.fn.name l.rest l.fn.line × (length l.rest + l.passed ≤ length l.fn.line)

abbrev pub decreases-loop-field : goal.decreases-loop-field
decreases-loop-field l = length l.rest
