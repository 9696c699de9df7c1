use Rattle.keys_sums.proofs.SumsPreambles.{sums_told}
use Rattle.keys_sums.proofs.laws.sums_image_begins.Goals as goal

pub returns : goal.returns
returns c = λ bytes h s reads. let it = sums_told bytes h s reads in (it.head.length, it.begins)
