use Rattle.keys_sketches.proofs.Preambles.{flaw_read}
use Rattle.keys_sketches.proofs.laws.flawed_is_unread.Goals as goal

pub returns : goal.returns
returns c = λ bytes h readable. flaw_read bytes h readable.0 readable.1
