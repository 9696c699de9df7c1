use Rattle.std.proofs.Common.{sym}
use Rattle.core_laws.proofs.operators.Meets.{meet_of_meet}
use Rattle.core_laws.proofs.laws.meet_in_turn.Goals as goal

pub returns : goal.returns
returns g c = λ key merges first values last. sym (meet_of_meet key merges first values last)
