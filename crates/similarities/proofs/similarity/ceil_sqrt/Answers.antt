use Rattle.estimates.proofs.Roots.{next_root, exact_root}
use Rattle.similarities.proofs.similarity.ceil_sqrt.Goals as goal

pub returns-then-root-number-clause-value : goal.returns-then-root-number-clause-value
returns-then-root-number-clause-value c = next_root c.args.number c.isqrt-root.result c.if-root-number.true c.isqrt-root.ensures.next_square_gt

pub returns-else-root-number-clause-value : goal.returns-else-root-number-clause-value
returns-else-root-number-clause-value c = exact_root c.args.number c.isqrt-root.result c.isqrt-root.ensures.square_le c.if-root-number.false
