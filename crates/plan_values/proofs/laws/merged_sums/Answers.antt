use Rattle.plan_values.proofs.MergedSums.{merged_sums, retained_sums}
use Rattle.plan_values.proofs.laws.merged_sums.Goals as goal

pub returns-clause-whole_map : goal.returns-clause-whole_map
returns-clause-whole_map g c = λ whole_number least greatest zero sums zero_is summed h p e unites found. merged_sums whole_number least greatest zero sums zero_is summed h p e unites found

pub returns-clause-retained : goal.returns-clause-retained
returns-clause-retained g c = λ whole_number least greatest zero sums zero_is summed seed h p v e accepts unites is found. retained_sums whole_number least greatest zero sums zero_is summed seed h p v e accepts unites is found
