use Rattle.totals.proofs.NearTotals.{near_total_from_lower, near_total_to_upper}
use Rattle.totals.proofs.laws.near_total_is_within.Goals as goal

pub returns-clause-lower : goal.returns-clause-lower
returns-clause-lower c = near_total_from_lower

pub returns-clause-upper : goal.returns-clause-upper
returns-clause-upper c = near_total_to_upper
