use Rattle.keys_records.proofs.Parsed.{records_of}
use Rattle.keys_records.proofs.laws.others_are_flawed.Goals as goal

pub returns : goal.returns
returns c = λ form text lines separator is. records_of form separator text lines is
