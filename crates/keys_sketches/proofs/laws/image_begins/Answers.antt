use Rattle.theta_sketches.proofs.ImageLayouts.{told}
use Rattle.keys_sketches.proofs.laws.image_begins.Goals as goal

pub returns : goal.returns
returns c = λ bytes h s reads. let it = told bytes h s reads in (it.head.length, it.begins)
