use Rattle.c_objects.proofs.SumsOrders.{sums_union_in}
use Rattle.c_objects.proofs.sums_union.SeededSumsUnionHasCompact.compact.Goals as goal

pub returns-in-Ok-clause-made : goal.returns-in-Ok-clause-made
returns-in-Ok-clause-made c =
    let e = c.in-Ok.ensures in sums_union_in c.args.ordered c.args.self.now (record { sketch = c.in-Ok.sketch }) e.refused e.ok e.part e.least e.kmin
