use Rattle.plan_values.proofs.Samples.{sampled}
use Rattle.plan_values.proofs.laws.value_is_sample.Goals as goal

pub returns : goal.returns
returns g c = λ f is seed p accepts. sampled _ f is seed p accepts
