use Rattle.keys_reports.proofs.PlainNames.{escaped_printed}
use Rattle.keys_reports.proofs.laws.escaped_names_stay_on_their_line.Goals as goal

pub returns : goal.returns
returns c = escaped_printed
