use Rattle.plan_values.proofs.TrimmedLeaf.{trimmed_plan}
use Rattle.plan_values.proofs.laws.trimmed_plan_is_cut.Goals as goal

pub returns : goal.returns
returns g c = trimmed_plan
