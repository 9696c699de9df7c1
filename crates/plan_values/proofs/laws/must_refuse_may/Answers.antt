use Rattle.plan_values.proofs.SureRefusals.{must_may}
use Rattle.plan_values.proofs.laws.must_refuse_may.Goals as goal

pub returns : goal.returns
returns g c = λ f seed p must. must_may _ f seed p must
