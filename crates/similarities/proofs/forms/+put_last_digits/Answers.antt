use Rattle.std.proofs.Common.{◌-◌, append_assoc, append-nil, refl, arith}
use Rattle.similarities.proofs.LastDigits.{digits_none, digits_more}
use Rattle.similarities.proofs.forms.+put_last_digits.Goals as goal

pub returns-then-places-eq0 : goal.returns-then-places-eq0
returns-then-places-eq0 g t c = rw (digits_none c.args.places c.args.number c.if-places-eq0.true) (simp append-nil)

pub returns : goal.returns
returns g t c =
    rw (
      digits_more c.args.places (c.args.places - 1) c.args.number (omega (arith, c.if-places-eq0.false)),
      c.in_ok-put_digit.ensures,
      c.in_ok-put_last_digits.ensures,
    ) (simp append_assoc refl)
