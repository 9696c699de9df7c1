use Rattle.similarities.proofs.NearShares.{consistent}
use Rattle.similarities.proofs.laws.similarities_are_consistent.Goals as goal

pub returns : goal.returns
returns c = λ deviations o. consistent deviations o.nonempty o
