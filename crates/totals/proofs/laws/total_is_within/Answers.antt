use Rattle.totals.proofs.NearTotals.{total_from_lower, total_to_upper}
use Rattle.totals.proofs.laws.total_is_within.Goals as goal

pub returns-clause-lower : goal.returns-clause-lower
returns-clause-lower c = total_from_lower

pub returns-clause-upper : goal.returns-clause-upper
returns-clause-upper c = total_to_upper
