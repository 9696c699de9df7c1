use Rattle.std.proofs.Common.{sym, ◌∙◌, arith}
use Rattle.distinct_arguments.proofs.Percentages.{least_at}
use Rattle.distinct_arguments.proofs.precision.size_of.Goals as goal

pub returns-clause-least : goal.returns-clause-least
returns-clause-least c =
    least_at c.args.word.now c.in_ok-percentage.percentage c.first_enough.result (sym c.percentage_of.ensures ∙ c.in_ok-percentage.was) (omega (arith, c.if-percentage-gt1000000.false)) c.first_enough.ensures.first
