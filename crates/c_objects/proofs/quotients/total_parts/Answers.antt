use Rattle.std.proofs.Common.{◌≡◌, ◌*◌, ◌&&◌, ◌<◌, ◌≤◌, true, nat_le, refl, arith}
use Rattle.std.proofs.lemmas.Bool.Decides.{nat_tests}
use Rattle.core_laws.specs.declared.TheConstants.{MAX_THETA}
use Rattle.estimates.specs.declared.fraction.TheConstants.{MAX_PLACES}
use Rattle.c_objects.specs.Totals.{is_total}
use Rattle.c_objects.proofs.Parts.{decimals_fit}
use Rattle.c_objects.proofs.quotients.total_parts.Goals as goal

pub overflow_cast-decimals : goal.overflow_cast-decimals
overflow_cast-decimals c =
    let low : 0 < c.args.theta = omega (arith, c.if-theta-total.false) in
    let limited : c.args.places ≤ 19 = c.if-places-gt-MAX_PLACES.false in
    rw (c.decimals-decimals.ensures, c.total_decimal-estimate.ensures) (record { fits = decimals_fit (c.joined-number.result * MAX_THETA) c.args.theta c.args.places low limited })

pub returns-clause-parts : goal.returns-clause-parts
returns-clause-parts c =
    let total = c.args.total.now in
    let is_valid = is_total total.low total.high c.args.theta && nat_le c.args.places MAX_PLACES in
    let valid : is_valid ≡ true = grind (arith, nat_tests, c.if-theta-total.false, c.if-theta-gt-MAX_THETA.false, c.if-places-gt-MAX_PLACES.false) in
    rw (c.whole-whole.ensures, c.decimals-decimals.ensures, c.total_decimal-estimate.ensures, c.joined-number.ensures.value, valid) refl
