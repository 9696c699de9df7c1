use Rattle.estimates.proofs.NearCounts.{upper_above}
use Rattle.estimates.proofs.laws.upper_is_above_retained.Goals as goal

pub returns : goal.returns
returns c = upper_above
