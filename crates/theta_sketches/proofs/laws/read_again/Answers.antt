use Rattle.theta_sketches.proofs.ReadBack.{spells_again}
use Rattle.theta_sketches.proofs.laws.read_again.Goals as goal

pub returns : goal.returns
returns c s rest w low high = record { seeded = low; spelled = spells_again s rest w high }
