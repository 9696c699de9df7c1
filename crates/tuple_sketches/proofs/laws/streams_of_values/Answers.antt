use Rattle.tuple_sketches.proofs.GivenValues.{no_values, one_more}
use Rattle.tuple_sketches.proofs.laws.streams_of_values.Goals as goal

pub returns-clause-none : goal.returns-clause-none
returns-clause-none g c = no_values

pub returns-clause-one_more : goal.returns-clause-one_more
returns-clause-one_more g c = one_more
