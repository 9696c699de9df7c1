use Rattle.tuple_sketches.proofs.Sums.{numbers_united, numbers_retained}
use Rattle.tuple_sketches.proofs.laws.streams_of_numbers.Goals as goal

pub returns-clause-united : goal.returns-clause-united
returns-clause-united c = numbers_united

pub returns-clause-least : goal.returns-clause-least
returns-clause-least c = numbers_retained
