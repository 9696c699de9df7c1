use Rattle.std.proofs.Common.{refl}
use Rattle.keys_reports.proofs.forms.tsv_row.Goals as goal

pub returns : goal.returns
returns g c = rw (c.in_ok-put_values.ensures, c.in_ok-row.ensures) refl
