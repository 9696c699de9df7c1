use Rattle.similarities.proofs.NearShares.{near_from_lower, near_to_upper}
use Rattle.similarities.proofs.laws.near_is_within.Goals as goal

pub returns-clause-lower : goal.returns-clause-lower
returns-clause-lower c = λ z s n q some inside limited near. near_from_lower z s n q some inside limited near

pub returns-clause-upper : goal.returns-clause-upper
returns-clause-upper c = λ z s n q some inside limited near. near_to_upper z s n q some inside limited near
