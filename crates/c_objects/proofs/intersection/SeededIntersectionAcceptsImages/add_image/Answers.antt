use Rattle.std.proofs.Common.{inl}
use Rattle.c_objects.proofs.Sampled.{meets_same}
use Rattle.c_objects.proofs.intersection.SeededIntersectionAcceptsImages.add_image.Goals as goal

pub returns-in-Ok : goal.returns-in-Ok
returns-in-Ok c =
    let same = meets_same _ _ _ _ c.args.self.now c.add.result c.add.new.object c.as_view.ensures.shows c.as_view.ensures.sequence c.add.ensures in
    inl (c.in-Ok.sketch.sketch, c.in-Ok.ensures.read, same)
