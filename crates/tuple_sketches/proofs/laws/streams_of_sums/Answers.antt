use Rattle.tuple_sketches.proofs.Sums.{sums_united, sums_retained}
use Rattle.tuple_sketches.proofs.laws.streams_of_sums.Goals as goal

pub returns-clause-united : goal.returns-clause-united
returns-clause-united c = sums_united

pub returns-clause-least : goal.returns-clause-least
returns-clause-least c = sums_retained
