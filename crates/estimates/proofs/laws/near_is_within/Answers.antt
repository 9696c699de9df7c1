use Rattle.estimates.proofs.NearCounts.{near_from_lower, near_to_upper}
use Rattle.estimates.proofs.laws.near_is_within.Goals as goal

pub returns-clause-lower : goal.returns-clause-lower
returns-clause-lower c = λ z r t n low seen near. near_from_lower z r t n seen near

pub returns-clause-upper : goal.returns-clause-upper
returns-clause-upper c = near_to_upper
