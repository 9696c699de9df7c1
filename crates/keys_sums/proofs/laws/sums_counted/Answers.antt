use Rattle.keys_sums.proofs.SumsPreambles.{sums_told}
use Rattle.keys_sums.proofs.laws.sums_counted.Goals as goal

pub returns : goal.returns
returns c = λ bytes h s reads. (sums_told bytes h s reads).counted
