use Rattle.estimates.proofs.Roots.{ceil_sqrt_enough, ceil_sqrt_least}
use Rattle.estimates.proofs.laws.root_is_least.Goals as goal

pub returns-clause-enough : goal.returns-clause-enough
returns-clause-enough c = ceil_sqrt_enough

pub returns-clause-least : goal.returns-clause-least
returns-clause-least c = ceil_sqrt_least
