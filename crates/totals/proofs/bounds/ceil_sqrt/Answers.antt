use Rattle.estimates.proofs.Roots.{next_root, exact_root}
use Rattle.totals.proofs.bounds.ceil_sqrt.Goals as goal

pub returns-then-root-number : goal.returns-then-root-number
returns-then-root-number c = next_root c.args.number c.isqrt-root.result c.if-root-number.true c.isqrt-root.ensures.next_square_gt

pub returns-else-root-number : goal.returns-else-root-number
returns-else-root-number c = exact_root c.args.number c.isqrt-root.result c.isqrt-root.ensures.square_le c.if-root-number.false
