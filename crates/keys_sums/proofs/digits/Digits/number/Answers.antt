use Rattle.std.proofs.Common.{sym, subst}
use Rattle.keys_sums.specs.Amounts.{IsRead}
use Rattle.keys_sums.specs.declared.digits.Digits.{Digits}
use Rattle.keys_sums.proofs.Numerals.{none_now}
use Rattle.keys_sums.proofs.digits.Digits.number.Goals as goal

pub returns-in-Wrong : goal.returns-in-Wrong
returns-in-Wrong c = λ bytes is. sym (none_now bytes (subst (λ (d : Digits). IsRead bytes d) c.in-Wrong.is is))
