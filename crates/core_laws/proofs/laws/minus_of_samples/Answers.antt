use Rattle.core_laws.proofs.operators.Samples.{minus_samples}
use Rattle.core_laws.proofs.laws.minus_of_samples.Goals as goal

pub returns : goal.returns
returns g c = λ key other. minus_samples key other
