use Rattle.tuple_sketches.proofs.Streams.{sample-of, fewer}
use Rattle.tuple_sketches.proofs.laws.parts_of_streams.Goals as goal

pub returns-clause-sample : goal.returns-clause-sample
returns-clause-sample g c = sample-of

pub returns-clause-fewer : goal.returns-clause-fewer
returns-clause-fewer g c = fewer
