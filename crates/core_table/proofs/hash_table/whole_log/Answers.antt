use Rattle.std.proofs.Common.{refl, arith}
use lib.Count.{count_leading_zeros}
use Rattle.core_table.proofs.Sizes.{whole_log_is}
use Rattle.core_table.proofs.hash_table.whole_log.Goals as goal

pub returns-then-n-eq0-clause-log : goal.returns-then-n-eq0-clause-log
unfolding count_leading_zeros
returns-then-n-eq0-clause-log c = rw c.if-n-eq0.true refl

pub returns-else-n-eq0-clause-log : goal.returns-else-n-eq0-clause-log
returns-else-n-eq0-clause-log c = whole_log_is c.args.n c.ilog2.result (omega (arith, c.if-n-eq0.false)) (omega (arith, c.ranges.n.fits)) c.ilog2.ensures.power_le c.ilog2.ensures.next_power_gt
