use Rattle.core_laws.proofs.operators.Marks.{step_marks}
use Rattle.core_laws.proofs.laws.refused_step_marks.Goals as goal

pub returns : goal.returns
returns g c = λ key. step_marks key
