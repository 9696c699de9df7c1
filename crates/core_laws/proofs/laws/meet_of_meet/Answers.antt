use Rattle.core_laws.proofs.operators.Meets.{meet_of_meet}
use Rattle.core_laws.proofs.laws.meet_of_meet.Goals as goal

pub returns : goal.returns
returns g c = λ key merges. meet_of_meet key merges
