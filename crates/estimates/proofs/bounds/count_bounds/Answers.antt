use Rattle.std.proofs.Common.{refl}
use Rattle.estimates.specs.Bounds.{count_bounds}
use Rattle.estimates.proofs.bounds.count_bounds.Goals as goal

pub returns : goal.returns
unfolding count_bounds
returns c = rw (c.max.ensures, c.div_ceil.ensures, c.saturating_sub.ensures, c.ceil_sqrt.ensures.value, c.ceil_sqrt-2.ensures.value, c.count-number.ensures) refl
