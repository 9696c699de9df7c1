use Rattle.keys_sums.proofs.SumsPreambles.{sums_flaw_read}
use Rattle.keys_sums.proofs.laws.flawed_is_no_sums.Goals as goal

pub returns : goal.returns
returns c = λ bytes h readable. sums_flaw_read bytes h readable.0 readable.1
