use Rattle.theta_sketches.proofs.ReadBack.{read_once}
use Rattle.theta_sketches.proofs.laws.one_reading.Goals as goal

pub returns : goal.returns
returns c bytes h r s p q = read_once bytes h r s p.spelled q.spelled
