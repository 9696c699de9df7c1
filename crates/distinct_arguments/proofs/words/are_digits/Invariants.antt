use Rattle.std.proofs.Common.{◌≡◌, length}
use Rattle.std.specs.Str.{all_ascii_digits}
use Rattle.distinct_arguments.proofs.words.are_digits.Given as goal

-- those that are left decide
abbrev pub invariant-loop-bytes : goal.invariant-loop-bytes
invariant-loop-bytes l = all_ascii_digits l.fn.bytes ≡ all_ascii_digits l.bytes

abbrev pub decreases-loop-bytes : goal.decreases-loop-bytes
decreases-loop-bytes l = length l.bytes
