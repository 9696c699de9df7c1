use Rattle.c_objects.proofs.Keys.{head_keys}
use Rattle.c_objects.proofs.tuples.head_of_keys.Goals as goal

pub returns : goal.returns
returns g c bytes h t r = head_keys g.S.TupleSummaryValue.spells bytes h t r
