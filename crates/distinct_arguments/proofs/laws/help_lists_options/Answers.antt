use Rattle.distinct_arguments.proofs.OptionLaws.{listed}
use Rattle.distinct_arguments.proofs.laws.help_lists_options.Goals as goal

pub returns : goal.returns
returns c = listed
