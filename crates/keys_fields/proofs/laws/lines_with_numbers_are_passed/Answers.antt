use Rattle.keys_fields.proofs.Numbers.{numbers_passed}
use Rattle.keys_fields.proofs.laws.lines_with_numbers_are_passed.Goals as goal

pub returns : goal.returns
returns c = numbers_passed
