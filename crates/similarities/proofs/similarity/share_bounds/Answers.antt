use Rattle.std.proofs.Common.{◌≤◌, ◌+◌, ◌*◌, refl, arith}
use Rattle.std.proofs.lemmas.Nat.{mul-le}
use Rattle.similarities.specs.Similarities.{share_bounds}
use Rattle.similarities.proofs.similarity.share_bounds.Goals as goal

pub overflow_mul-scaled-3 : goal.overflow_mul-scaled-3
overflow_mul-scaled-3 c =
    let n = c.args.number in
    let square : n * n ≤ 9 = mul-le n n 3 3 c.requires.deviations c.requires.deviations in
    let counted : n * n * c.args.united ≤ 9 * 17179869184 = mul-le (n * n) c.args.united 9 17179869184 square (omega (arith, c.requires.limited)) in
    let spread : n * n * c.args.united + 4 * c.product.result ≤ 2361183241434822606848 = omega (arith, counted, c.product.ensures.small) in
    let scaled = mul-le (n * n * 1000000000000) (n * n * c.args.united + 4 * c.product.result) 9000000000000 2361183241434822606848 (omega (arith, square)) spread in
    omega (arith, scaled)

pub returns : goal.returns
unfolding share_bounds
returns c = rw (c.div_ceil-2.ensures, c.saturating_sub.ensures, c.ceil_sqrt-reach.ensures.value, c.div_ceil.ensures, c.product.ensures.value) refl
