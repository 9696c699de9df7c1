use Rattle.std.proofs.Common.{arith}
use Rattle.plan_text.proofs.words.Separators.{length-lines_of-le}
use Rattle.plan_text.proofs.reading.line_number.Goals as goal

pub overflow_add-result : goal.overflow_add-result
overflow_add-result c = omega (arith, length-lines_of-le c.args.text.now)
