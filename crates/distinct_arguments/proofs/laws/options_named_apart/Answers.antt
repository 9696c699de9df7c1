use Rattle.distinct_arguments.proofs.OptionLaws.{once, named, short_named}
use Rattle.distinct_arguments.proofs.laws.options_named_apart.Goals as goal

pub returns : goal.returns
returns c = record { once = once; named = named; short = short_named }
