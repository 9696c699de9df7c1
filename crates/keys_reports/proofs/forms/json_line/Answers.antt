use Rattle.std.proofs.Common.{refl}
use Rattle.keys_reports.proofs.forms.json_line.Goals as goal

pub returns : goal.returns
returns g c = rw (c.in_ok-push_str.ensures.bytes, c.in_ok-put_fields.ensures, c.in_ok-line.ensures) refl
