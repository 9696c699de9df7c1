use Rattle.keys_sums.proofs.Below.{sums_below, exact_below}
use Rattle.keys_sums.proofs.laws.sums_are_of_lines_below_theta.Goals as goal

pub returns-clause-retained : goal.returns-clause-retained
returns-clause-retained c = sums_below

pub returns-clause-exact : goal.returns-clause-exact
returns-clause-exact c = exact_below
