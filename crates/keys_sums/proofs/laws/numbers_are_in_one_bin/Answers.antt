use Rattle.std.proofs.Common.{refl}
use Rattle.keys_sums.proofs.BinsOfNumbers.{in_one_bin, zero_in_none, has_number}
use Rattle.keys_sums.proofs.laws.numbers_are_in_one_bin.Goals as goal

pub returns-clause-once : goal.returns-clause-once
returns-clause-once c = in_one_bin

pub returns-clause-zero : goal.returns-clause-zero
returns-clause-zero c = zero_in_none

pub returns-clause-needed : goal.returns-clause-needed
returns-clause-needed c = has_number

pub returns-clause-count : goal.returns-clause-count
returns-clause-count c = refl
