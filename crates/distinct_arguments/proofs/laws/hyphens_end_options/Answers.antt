use Rattle.distinct_arguments.proofs.OptionLaws.{ended}
use Rattle.distinct_arguments.proofs.laws.hyphens_end_options.Goals as goal

pub returns : goal.returns
returns c = ended
