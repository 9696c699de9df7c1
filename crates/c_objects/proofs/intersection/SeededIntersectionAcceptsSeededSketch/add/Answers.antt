use Rattle.theta_sketches.specs.View.{view_shows, view_sequence}
use Rattle.c_objects.proofs.Sampled.{meets_same, sample_given}
use Rattle.c_objects.proofs.intersection.SeededIntersectionAcceptsSeededSketch.add.Goals as goal

pub returns : goal.returns
returns c =
    let view = c.as_view.result in (
      meets_same _ _ _ _ c.args.self.now c.add.result c.add.new.object c.as_view.ensures.shows c.as_view.ensures.sequence c.add.ensures,
      λ ok lg_k start seed streams more is given.
          let one = sample_given (view_shows view) (view_shows view) (view_sequence view) (view_sequence view) c.args.self.now c.add.result c.add.new.object in
          one c.add.ensures ok streams more is (c.as_view.ensures.sample lg_k start seed more given),
    )
