use Rattle.plan_values.proofs.PlanOutcome.{outcome_value, traced_whole, traced_fits}
use Rattle.plan_values.proofs.laws.outcome_is_value.Goals as goal

pub returns-clause-value : goal.returns-clause-value
returns-clause-value g c = λ f p. outcome_value _ f p

pub returns-clause-whole_map : goal.returns-clause-whole_map
returns-clause-whole_map g c = λ f seed p. traced_whole _ f seed p

pub returns-clause-fits : goal.returns-clause-fits
returns-clause-fits g c = λ f seed p. traced_fits _ f seed p
