use Rattle.std.proofs.Common.{append_assoc, refl}
use Rattle.totals.proofs.forms.total_json_line.Goals as goal

pub returns : goal.returns
returns g c = rw (c.in_ok-push_str.ensures.bytes, c.in_ok-write-2.ensures.bytes, c.in_ok-write.ensures.bytes, c.in_ok-line.ensures.ok) (simp append_assoc refl)
