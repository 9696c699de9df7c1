use Rattle.std.proofs.Common.{ap, arith, length, ◌≡◌, suc}
use Rattle.keys_lines.specs.Lines.{lines_of}
use Rattle.plan_text.proofs.words.Separators.{length-lines_of-le}
use Rattle.plan_text.proofs.text.line_count.Goals as goal

pub overflow_add-count : goal.overflow_add-count
overflow_add-count c =
    let step : length (lines_of c.loop-after.rest.now) ≡ suc (length (lines_of c.in-Some.after.now)) = ap length c.in-Some.ensures in
    omega (arith, length-lines_of-le c.args.text.now, c.loop-after.invariant)
