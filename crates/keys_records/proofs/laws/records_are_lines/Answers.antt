use Rattle.keys_records.specs.Spelling.{passed}
use Rattle.keys_records.proofs.Lines.{lines_are}
use Rattle.keys_records.proofs.laws.records_are_lines.Goals as goal

pub returns : goal.returns
returns c = λ form records text has. lines_are form.columns (passed form records) has.1
