use Rattle.std.proofs.Common.{append_assoc}
use Rattle.keys_reports.proofs.forms.put_estimate.Goals as goal

pub returns-else-report : goal.returns-else-report
returns-else-report g c = rw (c.if-report.false) (simp append_assoc c.write-else-report.ensures.bytes)
