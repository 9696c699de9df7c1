use Rattle.keys_records.proofs.Spelled.{all_read}
use Rattle.keys_records.proofs.laws.records_are_passed.Goals as goal

pub returns : goal.returns
returns c = λ form records text separator has. all_read form separator records text has
