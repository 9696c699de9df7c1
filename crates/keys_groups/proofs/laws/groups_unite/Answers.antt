use Rattle.keys_groups.proofs.PartsUnite.{groups_united}
use Rattle.keys_groups.proofs.laws.groups_unite.Goals as goal

pub returns : goal.returns
returns c = λ grouping sources texts out settled. groups_united c.one_reading.ensures c.read_again.ensures grouping settled sources texts out
