use Rattle.c_objects.proofs.SumsOrders.{sums_in}
use Rattle.c_objects.proofs.sums.SeededSumsHasCompact.compact.Goals as goal

pub returns-in-Ok-clause-made : goal.returns-in-Ok-clause-made
returns-in-Ok-clause-made c =
    let e = c.in-Ok.ensures in sums_in c.args.ordered c.args.self.now (record { sketch = c.in-Ok.sketch }) e.ok e.part e.seeded e.least e.kmin
