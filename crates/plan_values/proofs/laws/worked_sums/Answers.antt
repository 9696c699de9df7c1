use Rattle.std.proofs.Common.{refl}
use Rattle.plan_values.proofs.laws.worked_sums.Goals as goal

pub returns-clause-leaf : goal.returns-clause-leaf
returns-clause-leaf c = (refl, refl)

pub returns-clause-anew : goal.returns-clause-anew
returns-clause-anew c = (refl, refl)

pub returns-clause-union : goal.returns-clause-union
returns-clause-union c = (refl, refl)

pub returns-clause-past : goal.returns-clause-past
returns-clause-past c = refl
