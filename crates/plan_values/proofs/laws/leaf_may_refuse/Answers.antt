use Rattle.plan_values.proofs.SureRefusals.{leaf_may, leaf_must}
use Rattle.plan_values.proofs.laws.leaf_may_refuse.Goals as goal

pub returns-clause-may : goal.returns-clause-may
returns-clause-may g c = λ f seed lg_k start steps i d lt fit refused. leaf_may _ f seed lg_k start steps i d lt fit refused

pub returns-clause-must : goal.returns-clause-must
returns-clause-must g c = λ f seed lg_k start steps i d lt fit refused. leaf_must _ f seed lg_k start steps i d lt fit refused
