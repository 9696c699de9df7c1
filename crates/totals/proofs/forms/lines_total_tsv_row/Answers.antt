use Rattle.std.proofs.Common.{append_assoc}
use Rattle.totals.proofs.forms.lines_total_tsv_row.Goals as goal

pub returns : goal.returns
returns g c = simp append_assoc c.format.ensures.ok
