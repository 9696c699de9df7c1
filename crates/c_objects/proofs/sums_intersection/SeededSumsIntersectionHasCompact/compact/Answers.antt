use Rattle.c_objects.proofs.SumsOrders.{sums_intersection_in}
use Rattle.c_objects.proofs.sums_intersection.SeededSumsIntersectionHasCompact.compact.Goals as goal

pub returns-in-Ok-Some-clause-made : goal.returns-in-Ok-Some-clause-made
returns-in-Ok-Some-clause-made c =
    let some = c.in-Ok-Some in let e = some.ensures in
    sums_intersection_in c.args.ordered c.args.self.now some.field-0 (record { sketch = some.sketch }) some.field-0-is e.ok e.sample e.below
