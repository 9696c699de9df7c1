use Rattle.std.proofs.Common.{false, arith}
use Rattle.std.proofs.lemmas.Fmt.{hex_byte}
use Rattle.plan_runs.proofs.answer.put_byte.Goals as goal

pub returns : goal.returns
returns g c = rw (c.laid_out.ensures, c.in_radix.ensures, hex_byte false c.args.byte (omega (arith, c.ranges.byte.fits))) at c.write.ensures.bytes
