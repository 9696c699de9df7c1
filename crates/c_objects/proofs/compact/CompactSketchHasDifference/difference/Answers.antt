use Rattle.theta_sketches.specs.Streams.{view_value}
use Rattle.c_objects.proofs.Orders.{difference_as, difference_in}
use Rattle.c_objects.proofs.compact.CompactSketchHasDifference.difference.Goals as goal

pub returns-in-Ok-compute-clause-made : goal.returns-in-Ok-compute-clause-made
returns-in-Ok-compute-clause-made c =
    let a = c.as_view.ensures in let b = c.as_view-2.ensures in let e = c.in-Ok-compute.ensures in
    difference_in c.args.ordered c.args.self.now c.args.other.now (record { sketch = c.in-Ok-compute.sketch })
    (view_value c.as_view.result) (view_value c.as_view-2.result)
    (difference_as c.args.ordered _ _ _ _ _ _ _ _ c.in-Ok-compute.sketch a.shows a.sequence b.shows b.sequence e.ok)
    a.sample b.sample e.sample e.below
