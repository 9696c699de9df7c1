use Rattle.estimates.proofs.NearCounts.{near_more}
use Rattle.estimates.proofs.laws.near_for_more.Goals as goal

pub returns : goal.returns
returns c = near_more
