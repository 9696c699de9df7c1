use Rattle.plan_values.proofs.CommutingSums.{sums_commute}
use Rattle.plan_values.proofs.laws.sums_commute.Goals as goal

pub returns : goal.returns
returns g c = λ whole_number least greatest sums distinct summed creates updates. sums_commute whole_number distinct least greatest sums summed creates updates
