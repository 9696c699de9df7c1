use Rattle.core_laws.specs.declared.TheConstants.{MAX_THETA}
use Rattle.estimates.proofs.InParts.{nearest_in_parts}
use Rattle.estimates.proofs.totals.nearest_total.Goals as goal

pub returns : goal.returns
returns c = nearest_in_parts c.args.sum MAX_THETA c.args.theta c.requires.low
