use Rattle.std.proofs.Common.{append_assoc}
use Rattle.keys_reports.proofs.forms.put_values.Goals as goal

pub returns : goal.returns
returns g c = simp append_assoc c.write.ensures.bytes
