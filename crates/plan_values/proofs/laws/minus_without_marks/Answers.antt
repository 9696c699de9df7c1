use Rattle.plan_values.proofs.UnmarkedValues.{minus_unmarked}
use Rattle.plan_values.proofs.laws.minus_without_marks.Goals as goal

pub returns : goal.returns
returns g c = minus_unmarked
