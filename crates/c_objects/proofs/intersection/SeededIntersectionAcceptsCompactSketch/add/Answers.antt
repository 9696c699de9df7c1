use Rattle.c_objects.proofs.Sampled.{meets_same}
use Rattle.c_objects.proofs.intersection.SeededIntersectionAcceptsCompactSketch.add.Goals as goal

pub returns : goal.returns
returns c = meets_same _ _ _ _ c.args.self.now c.add.result c.add.new.object c.as_view.ensures.shows c.as_view.ensures.sequence c.add.ensures
