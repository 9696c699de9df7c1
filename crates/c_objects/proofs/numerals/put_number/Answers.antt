use Rattle.std.proofs.Common.{arith}
use Rattle.c_objects.proofs.Digits.{length-decimal-le_128}
use Rattle.c_objects.proofs.numerals.put_number.Goals as goal

pub put_digits-start-requires-clause-fits : goal.put_digits-start-requires-clause-fits
put_digits-start-requires-clause-fits c = omega (arith, length-decimal-le_128 c.args.number (omega arith))
