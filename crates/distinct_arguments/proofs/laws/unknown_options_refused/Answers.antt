use Rattle.distinct_arguments.proofs.OptionLaws.{refused_unknown}
use Rattle.distinct_arguments.proofs.laws.unknown_options_refused.Goals as goal

pub returns : goal.returns
returns c = refused_unknown
