use Rattle.std.proofs.Common.{◌+◌, ◌-◌, ◌/◌, ◌%◌, ◌++◌, ◌≤◌, ap, ◌∙◌, arith}
use Rattle.c_objects.specs.Numerals.{last_digits}
use Rattle.c_objects.proofs.Digits.{before_place, last_digits_step, last_digits_none}
use Rattle.c_objects.proofs.numerals.+put_last_digits.Goals as goal

pub returns-then-places-eq0 : goal.returns-then-places-eq0
returns-then-places-eq0 t c = last_digits_none c.args.places c.args.number c.args.end c.args.text.now c.if-places-eq0.true

pub returns : goal.returns
returns t c =
    let places = c.args.places in
    let end = c.args.end in
    let some : 1 ≤ places = omega (arith, c.if-places-eq0.false) in
    let behind = before_place c.args.text.now end (48 + c.args.number % 10) (omega (arith, some, c.requires.fits)) c.requires.within in
    last_digits_step places c.args.number end c.args.text.now c.put_last_digits.new.text some c.requires.fits (c.put_last_digits.ensures ∙ ap (λ ds. last_digits (places - 1) (c.args.number / 10) ++ ds) behind)
