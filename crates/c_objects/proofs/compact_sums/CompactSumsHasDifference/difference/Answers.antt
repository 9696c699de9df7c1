use Rattle.tuple_sketches.specs.Streams.{view_value}
use Rattle.c_objects.proofs.SharedSums.{difference_same}
use Rattle.c_objects.proofs.SumsOrders.{sums_difference_in}
use Rattle.c_objects.proofs.compact_sums.CompactSumsHasDifference.difference.Goals as goal

pub returns-in-Ok-compute-clause-made : goal.returns-in-Ok-compute-clause-made
returns-in-Ok-compute-clause-made c =
    let a = c.as_view.ensures in let b = c.as_view-2.ensures in let e = c.in-Ok-compute.ensures in
    sums_difference_in c.args.ordered c.args.self.now c.args.other.now (record { sketch = c.in-Ok-compute.sketch })
    (view_value c.as_view.result) (view_value c.as_view-2.result)
    (difference_same c.args.ordered _ _ _ _ _ _ c.in-Ok-compute.sketch a.shows a.sequence b.shows e.ok)
    a.sample b.sample e.sample e.below
