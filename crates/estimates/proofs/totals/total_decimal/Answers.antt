use Rattle.std.proofs.Common.{refl}
use Rattle.core_laws.specs.declared.TheConstants.{MAX_THETA}
use Rattle.estimates.proofs.InParts.{quotient_in_parts, rest_in_parts}
use Rattle.estimates.proofs.totals.total_decimal.Goals as goal

pub returns : goal.returns
returns c =
    let whole = quotient_in_parts c.args.sum MAX_THETA c.args.theta c.requires.low in
    rw (c.pow.ensures, whole, rest_in_parts c.args.sum MAX_THETA c.args.theta) refl
