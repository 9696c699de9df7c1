use Rattle.tuple_sketches.proofs.ReadBack.{read_once}
use Rattle.tuple_sketches.proofs.laws.one_reading.Goals as goal

pub returns : goal.returns
returns g c bytes h r s p q = read_once g.S.TupleSummaryValue.spells g.met.S.TupleSummaryValue.one_spelling bytes h r s p.spelled q.spelled
