use Rattle.totals.proofs.NearTotals.{exact_lower, exact_upper}
use Rattle.totals.proofs.laws.exact_total_is_its_bounds.Goals as goal

pub returns-clause-lower : goal.returns-clause-lower
returns-clause-lower c = exact_lower

pub returns-clause-upper : goal.returns-clause-upper
returns-clause-upper c = exact_upper
