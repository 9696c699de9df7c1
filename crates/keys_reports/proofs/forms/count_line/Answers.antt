use Rattle.std.proofs.Common.{append_assoc}
use Rattle.keys_reports.proofs.forms.count_line.Goals as goal

pub returns-then-with_bounds : goal.returns-then-with_bounds
returns-then-with_bounds g c = rw (c.if-with_bounds.true) (simp append_assoc c.format.ensures.ok)

pub returns-else-with_bounds : goal.returns-else-with_bounds
returns-else-with_bounds g c = rw (c.if-with_bounds.false) (simp append_assoc c.format-else-with_bounds.ensures.ok)
