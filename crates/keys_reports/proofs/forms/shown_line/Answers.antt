use Rattle.std.proofs.Common.{append_assoc}
use Rattle.keys_reports.proofs.forms.shown_line.Goals as goal

pub returns : goal.returns
returns g c = rw (c.in_ok-write.ensures.bytes, c.in_ok-put_estimate.ensures, c.in_ok-push_str.ensures.bytes, c.in_ok-line.ensures) (simp append_assoc)
