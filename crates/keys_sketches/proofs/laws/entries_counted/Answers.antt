use Rattle.theta_sketches.proofs.ImageLayouts.{told}
use Rattle.keys_sketches.proofs.laws.entries_counted.Goals as goal

pub returns : goal.returns
returns c = λ bytes h s reads. (told bytes h s reads).counted
