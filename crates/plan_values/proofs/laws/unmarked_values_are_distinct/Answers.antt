use Rattle.plan_values.proofs.UnmarkedValues.{unmarked_distinct}
use Rattle.plan_values.proofs.laws.unmarked_values_are_distinct.Goals as goal

pub returns : goal.returns
returns g c = unmarked_distinct
