use Rattle.core_laws.proofs.operators.Samples.{lawful_less}
use Rattle.core_laws.proofs.laws.lawful_for_less.Goals as goal

pub returns : goal.returns
returns g c = λ key. lawful_less key
