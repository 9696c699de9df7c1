use Rattle.c_objects.proofs.Merges.{adds_same}
use Rattle.c_objects.proofs.union.SeededUnionAcceptsCompactSketch.add.Goals as goal

pub returns : goal.returns
returns c = adds_same _ _ _ _ c.args.self.now c.add.result c.add.new.union c.as_view.ensures.shows c.as_view.ensures.sequence c.add.ensures
