use Rattle.core_laws.proofs.operators.Meets.{meet_shows}
use Rattle.core_laws.proofs.laws.meet_shows.Goals as goal

pub returns : goal.returns
returns g c = λ m. meet_shows m.key m.merges m.keeps
