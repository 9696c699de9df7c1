use Rattle.keys_sketches.proofs.Shards.{united_texts}
use Rattle.keys_sketches.proofs.laws.shards_unite.Goals as goal

pub returns : goal.returns
returns c = united_texts
