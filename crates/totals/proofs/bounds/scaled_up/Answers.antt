use Rattle.std.proofs.Common.{ℕ, ap, arith}
use Rattle.std.specs.Prelude.{min}
use Rattle.estimates.proofs.InParts.{quotient_in_parts, rest_in_parts}
use Rattle.totals.proofs.bounds.scaled_up.Goals as goal

pub returns : goal.returns
returns c =
    let whole = quotient_in_parts c.args.number c.args.by c.args.theta c.requires.low in
    let rest = ap (λ (x : ℕ). min 1 x) (rest_in_parts c.args.number c.args.by c.args.theta) in
    omega (arith, whole, rest, c.div_ceil.ensures)
