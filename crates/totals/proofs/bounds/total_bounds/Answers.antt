use Rattle.std.proofs.Common.{◌≡◌, ◌∙◌, ap, refl, arith}
use Rattle.std.specs.Prelude.{min}
use Rattle.totals.specs.Bounds.{GREATEST, greatest_in, root_of, squares_of, total_bounds}
use Rattle.totals.specs.Totals.{sum_of}
use Rattle.totals.proofs.NearTotals.{lower_saturated, upper_saturated, root_small, spread_small, sum_limited}
use Rattle.totals.proofs.bounds.total_bounds.Goals as goal

pub scaled_up-requires-clause-limited : goal.scaled_up-requires-clause-limited
scaled_up-requires-clause-limited g c = rw (c.ceil_sqrt-spread.ensures) (spread_small c.theta64-theta.result)

pub scaled_up-requires-clause-small : goal.scaled_up-requires-clause-small
scaled_up-requires-clause-small g c =
    let s = c.args.sketch.now in
    let listed = ap (λ i. i.rest) c.iter.ensures.listed in
    let sum : c.sum_of-sum.result ≡ sum_of s.entries = c.sum_of-sum.ensures.sum ∙ ap sum_of listed in
    let squares = c.squares_of-squares.ensures ∙ ap (λ i. min (squares_of i.rest) GREATEST) c.iter-2.ensures.listed in
    let greatest = c.greatest_of.ensures ∙ ap (λ i. greatest_in i.rest) c.iter-3.ensures.listed in
    let root : c.root_of-root.result ≡ root_of s.entries = c.root_of-root.ensures s.entries squares sum greatest in
    let small = sum_limited s c.iter.ensures.sound c.iter.result.rest listed (rw (← c.sum_of-sum.ensures.sum) c.sum_of-sum.ensures.limited) in
    omega (arith, root, root_small s.entries, small, c.theta64-theta.ensures)

pub scaled_down-requires-clause-small : goal.scaled_down-requires-clause-small
scaled_down-requires-clause-small g c =
    let s = c.args.sketch.now in
    let listed = ap (λ i. i.rest) c.iter.ensures.listed in
    let sum : c.sum_of-sum.result ≡ sum_of s.entries = c.sum_of-sum.ensures.sum ∙ ap sum_of listed in
    let small = sum_limited s c.iter.ensures.sound c.iter.result.rest listed (rw (← c.sum_of-sum.ensures.sum) c.sum_of-sum.ensures.limited) in
    omega (arith, sum, small, c.theta64-theta.ensures)

pub scaled_up-requires-2-clause-small : goal.scaled_up-requires-2-clause-small
scaled_up-requires-2-clause-small g c =
    let s = c.args.sketch.now in
    let listed = ap (λ i. i.rest) c.iter.ensures.listed in
    let sum : c.sum_of-sum.result ≡ sum_of s.entries = c.sum_of-sum.ensures.sum ∙ ap sum_of listed in
    let small = sum_limited s c.iter.ensures.sound c.iter.result.rest listed (rw (← c.sum_of-sum.ensures.sum) c.sum_of-sum.ensures.limited) in
    omega (arith, sum, small, c.theta64-theta.ensures)

pub returns : goal.returns
unfolding total_bounds
returns g c =
    let s = c.args.sketch.now in
    let sum : c.sum_of-sum.result ≡ sum_of s.entries = c.sum_of-sum.ensures.sum ∙ ap (λ i. sum_of i.rest) c.iter.ensures.listed in
    let squares = c.squares_of-squares.ensures ∙ ap (λ i. min (squares_of i.rest) GREATEST) c.iter-2.ensures.listed in
    let greatest = c.greatest_of.ensures ∙ ap (λ i. greatest_in i.rest) c.iter-3.ensures.listed in
    let root : c.root_of-root.result ≡ root_of s.entries = c.root_of-root.ensures s.entries squares sum greatest in
    rw (
      c.max.ensures,
      c.saturating_add.ensures,
      c.saturating_sub.ensures,
      c.saturating_mul-reach.ensures,
      lower_saturated c.scaled_down.result _ (omega (arith, c.scaled_down.type_inv)),
      upper_saturated c.scaled_up-2.result _,
      c.scaled_down.ensures,
      c.scaled_up-2.ensures,
      c.count_of.ensures,
      c.scaled_up.ensures,
      root,
      c.ceil_sqrt-spread.ensures,
      sum,
      c.theta64-theta.ensures,
    ) refl
