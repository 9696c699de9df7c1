use Rattle.distinct_arguments.proofs.OptionLaws.{last_counts}
use Rattle.distinct_arguments.proofs.laws.last_value_counts.Goals as goal

pub returns : goal.returns
returns c = last_counts
