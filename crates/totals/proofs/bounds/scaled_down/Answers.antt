use Rattle.estimates.proofs.InParts.{quotient_in_parts}
use Rattle.totals.proofs.bounds.scaled_down.Goals as goal

pub returns : goal.returns
returns c = quotient_in_parts c.args.number c.args.by c.args.theta c.requires.low
