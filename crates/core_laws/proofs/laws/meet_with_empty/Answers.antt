use Rattle.core_laws.proofs.operators.EmptyMeets.{with_empty}
use Rattle.core_laws.proofs.laws.meet_with_empty.Goals as goal

pub returns : goal.returns
returns g c = with_empty
