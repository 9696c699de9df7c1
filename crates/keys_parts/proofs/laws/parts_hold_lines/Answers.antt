use Rattle.keys_parts.proofs.Parted.{parts_lines}
use Rattle.keys_parts.proofs.laws.parts_hold_lines.Goals as goal

pub returns : goal.returns
returns c = parts_lines
