use Rattle.keys_lines.proofs.KeyPlaces.{next_marked}
use Rattle.keys_lines.proofs.field.next_mark.Goals as goal

pub returns : goal.returns
returns c = λ byte lanes long is. next_marked byte c.args.from lanes c.requires long c.args.marks is
