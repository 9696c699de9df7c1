use Rattle.std.proofs.Common.{◌≤◌, length, refl, arith}
use Rattle.totals.specs.Totals.{lines_total}
use Rattle.totals.proofs.Scaled.{few_below}
use Rattle.totals.proofs.total.lines_total.Goals as goal

pub nearest_total-requires-clause-small : goal.nearest_total-requires-clause-small
nearest_total-requires-clause-small g c =
    let shown = c.num_retained-retained.ensures.sound.shown in
    let es = c.args.sketch.now.entries in
    let few : length es ≤ c.args.sketch.now.theta = few_below c.args.sketch.now.theta es shown.distinct shown.below_theta in
    omega (arith, few, c.num_retained-retained.ensures.count, shown.theta_low, c.theta64-theta.ensures)

pub returns : goal.returns
unfolding lines_total
returns g c = rw (c.nearest_total.ensures, c.num_retained-retained.ensures.count, c.theta64-theta.ensures) refl
