use Rattle.plan_values.proofs.NeverRefused.{theta_whole}
use Rattle.plan_values.proofs.PlansWithoutMarks.{theta_unmarked}
use Rattle.plan_values.proofs.laws.theta_in_folds.Goals as goal

pub returns-clause-value : goal.returns-clause-value
returns-clause-value g c = theta_unmarked

pub returns-clause-whole_map : goal.returns-clause-whole_map
returns-clause-whole_map g c = theta_whole
