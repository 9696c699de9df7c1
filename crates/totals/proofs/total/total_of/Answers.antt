use Rattle.std.proofs.Common.{◌≡◌, ◌≤◌, ◌∙◌, length, ap, refl, sym, subst, arith}
use Rattle.totals.specs.Totals.{IsTotalOf, sum_of, total_of}
use Rattle.totals.proofs.Scaled.{few_below}
use Rattle.totals.proofs.total.total_of.Goals as goal

pub nearest_total-requires-clause-small : goal.nearest_total-requires-clause-small
nearest_total-requires-clause-small g c =
    let shown = c.num_retained-retained.ensures.sound.shown in
    let es = c.args.sketch.now.entries in
    let few : length es ≤ c.args.sketch.now.theta = few_below c.args.sketch.now.theta es shown.distinct shown.below_theta in
    let all : length c.iter.result.rest ≡ length es = ap (λ i. length i.rest) c.iter.ensures.listed in
    omega (arith, few, all, shown.theta_low, c.theta64-theta.ensures, c.sum_of.ensures.limited)

pub returns-clause-value : goal.returns-clause-value
unfolding total_of
returns-clause-value g c =
    let sum = c.sum_of.ensures.sum ∙ ap (λ i. sum_of i.rest) c.iter.ensures.listed in
    rw (c.nearest_total.ensures, sum, c.num_retained-retained.ensures.count, c.theta64-theta.ensures) refl

pub returns-clause-consistent : goal.returns-clause-consistent
returns-clause-consistent g c = subst (IsTotalOf c.args.sketch.now.entries) (sym (returns-clause-value g c)) (c.totals_are_consistent.ensures c.args.sketch.now c.num_retained-retained.ensures.sound)
