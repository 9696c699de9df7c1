use Rattle.std.proofs.Common.{◌≡◌, ◌+◌, Some, take}
use Rattle.keys_sums.specs.Amounts.{number_in}
use Rattle.keys_sums.proofs.digits.short_number.Given as goal

-- the bytes so far spell the number
abbrev pub invariant-loop-byte : goal.invariant-loop-byte
invariant-loop-byte l = number_in (take (l.byte-index + 1) l.text) ≡ Some l.number
