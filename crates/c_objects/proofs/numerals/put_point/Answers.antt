use Rattle.std.proofs.Common.{◌<◌, arith}
use Rattle.c_objects.proofs.Digits.{length-after_point, point_before, point_none}
use Rattle.c_objects.proofs.numerals.put_point.Goals as goal

pub returns-then-places-eq0-clause-written : goal.returns-then-places-eq0-clause-written
returns-then-places-eq0-clause-written c = point_none c.args.decimals c.args.places c.args.text.now c.if-places-eq0.true c.told-text

pub returns-clause-start : goal.returns-clause-start
returns-clause-start c =
    let some : 0 < c.args.places = omega (arith, c.if-places-eq0.false) in
    omega (arith, length-after_point c.args.decimals c.args.places some, c.requires.limited)

pub returns-clause-written : goal.returns-clause-written
returns-clause-written c =
    let some : 0 < c.args.places = omega (arith, c.if-places-eq0.false) in
    point_before c.args.decimals c.args.places c.put_last_digits.new.text c.args.text.now some c.requires.limited c.told-text c.put_last_digits.ensures
