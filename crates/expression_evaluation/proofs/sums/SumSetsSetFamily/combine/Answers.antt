use Rattle.std.proofs.Common.{sym, subst}
use Rattle.std.specs.Prelude.{IfOk}
use Rattle.expression_evaluation.specs.Values.{sum_rules}
use Rattle.expression_evaluation.specs.Running.{IsCombination}
use Rattle.expression_text.specs.declared.operator.Operator.{Operator}
use Rattle.expression_evaluation.proofs.sums.SumSetsSetFamily.combine.Goals as goal

pub returns-in-Difference-clause-value : goal.returns-in-Difference-clause-value
returns-in-Difference-clause-value g c =
    let mode = c.args.self.now.mode in
    subst (λ (o : Operator). IfOk c.difference_of.result (λ s. IsCombination (sum_rules mode) c.args.lg_k c.args.seed o c.args.first c.args.second s)) (sym c.in-Difference.is) (c.difference_of.ensures.value mode)
