use Rattle.estimates.proofs.NearCounts.{inside_near}
use Rattle.estimates.proofs.laws.inside_is_near.Goals as goal

pub returns : goal.returns
returns c = inside_near
