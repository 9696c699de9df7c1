use Rattle.core_laws.proofs.operators.Samples.{meet_samples}
use Rattle.core_laws.proofs.laws.meet_of_samples.Goals as goal

pub returns : goal.returns
returns g c = λ m. meet_samples m.key m.merges m.keeps
