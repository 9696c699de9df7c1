use Rattle.totals.proofs.Scaled.{total_consistent}
use Rattle.totals.proofs.laws.totals_are_consistent.Goals as goal

pub returns : goal.returns
returns c = total_consistent
