use Rattle.keys_fields.proofs.Numbers.{others_counted}
use Rattle.keys_fields.proofs.laws.lines_without_numbers_are_counted.Goals as goal

pub returns : goal.returns
returns c = others_counted
