use Rattle.theta_sketches.proofs.Streams.{same_sets}
use Rattle.theta_sketches.proofs.laws.same_sets.Goals as goal

pub returns : goal.returns
returns c = same_sets
