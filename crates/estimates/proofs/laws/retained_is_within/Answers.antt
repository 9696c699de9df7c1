use Rattle.estimates.proofs.NearCounts.{retained_within}
use Rattle.estimates.proofs.laws.retained_is_within.Goals as goal

pub returns : goal.returns
returns c = retained_within
