use Rattle.std.proofs.Common.{append_assoc}
use Rattle.totals.proofs.forms.total_line.Goals as goal

pub returns-then-total : goal.returns-then-total
returns-then-total g c = rw (c.if-total.true) (simp append_assoc c.format.ensures.ok)

pub returns-else-total : goal.returns-else-total
returns-else-total g c = rw (c.if-total.false) (simp append_assoc c.format-else-total.ensures.ok)
