use Rattle.std.proofs.Common.{◌≡◌, ◌<◌, true, refl, arith}
use Rattle.std.proofs.lemmas.Bool.Decides.{nat_tests}
use Rattle.c_objects.specs.Totals.{is_total}
use Rattle.c_objects.proofs.quotients.total_rounded.Goals as goal

pub returns : goal.returns
returns c =
    let total = c.args.total.now in
    let is_valid = is_total total.low total.high c.args.theta in
    let valid : is_valid ≡ true = grind (arith, nat_tests, c.if-theta-total.false, c.if-theta-gt-MAX_THETA.false) in
    rw (c.nearest_total.ensures, c.joined-number.ensures.value, valid) refl
