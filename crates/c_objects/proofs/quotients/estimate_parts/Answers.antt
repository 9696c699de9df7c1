use Rattle.std.proofs.Common.{◌*◌, ◌<◌, ◌≤◌, arith}
use Rattle.std.proofs.lemmas.Bool.Decides.{nat_tests}
use Rattle.core_laws.specs.declared.TheConstants.{MAX_THETA}
use Rattle.c_objects.proofs.Parts.{decimals_fit}
use Rattle.c_objects.proofs.quotients.estimate_parts.Goals as goal

pub overflow_cast-decimals : goal.overflow_cast-decimals
overflow_cast-decimals c =
    let low : 0 < c.args.theta = grind (arith, nat_tests, c.is_state.ensures, c.if-not-is_state.false) in
    let limited : c.args.places ≤ 19 = c.if-places-gt-MAX_PLACES.false in
    rw (c.decimals-decimals.ensures, c.estimate_decimal-estimate.ensures) (record { fits = decimals_fit (c.args.retained * MAX_THETA) c.args.theta c.args.places low limited })
