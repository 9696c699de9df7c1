use Rattle.estimates.proofs.NearCounts.{exact_bounds}
use Rattle.estimates.proofs.laws.exact_is_its_bounds.Goals as goal

pub returns : goal.returns
returns c = exact_bounds
