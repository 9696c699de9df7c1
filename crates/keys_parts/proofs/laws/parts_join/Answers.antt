use Rattle.keys_parts.proofs.Parted.{parts_joined}
use Rattle.keys_parts.proofs.laws.parts_join.Goals as goal

pub returns : goal.returns
returns c = parts_joined
