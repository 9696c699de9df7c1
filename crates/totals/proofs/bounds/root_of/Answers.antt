use Rattle.std.proofs.Common.{◌∙◌, arith}
use Rattle.totals.proofs.NearTotals.{root_of_few, root_of_many, wide_saturated}
use Rattle.totals.proofs.bounds.root_of.Goals as goal

pub returns-then-squares-lt340282366920938463463374607431768211455 :
    goal.returns-then-squares-lt340282366920938463463374607431768211455
returns-then-squares-lt340282366920938463463374607431768211455 c = λ es squares sum greatest.
    c.ceil_sqrt.ensures ∙ root_of_few es c.args.squares squares c.if-squares-lt340282366920938463463374607431768211455.true

pub returns-else-squares-lt340282366920938463463374607431768211455 :
    goal.returns-else-squares-lt340282366920938463463374607431768211455
returns-else-squares-lt340282366920938463463374607431768211455 c = λ es squares sum greatest.
    rw (
      c.min.ensures,
      c.saturating_mul-wide.ensures,
      wide_saturated _ c.args.sum (omega (arith, c.ranges.sum.fits)),
      c.ceil_sqrt-else-squares-lt340282366920938463463374607431768211455.ensures,
      c.ceil_sqrt-else-squares-lt340282366920938463463374607431768211455-2.ensures,
      sum,
      greatest,
    )
    (root_of_many es c.args.squares squares c.if-squares-lt340282366920938463463374607431768211455.false)
