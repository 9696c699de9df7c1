use Rattle.keys_sketches.proofs.Shards.{same_value}
use Rattle.keys_sketches.proofs.laws.lines_in_any_order.Goals as goal

pub returns : goal.returns
returns c = same_value
