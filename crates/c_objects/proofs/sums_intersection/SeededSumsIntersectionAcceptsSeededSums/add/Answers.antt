use Rattle.core_slots.specs.Entry.{tuple_key}
use Rattle.core_state.specs.View.{shows, sequence}
use Rattle.c_objects.proofs.SharedSums.{meets_same, sample_given}
use Rattle.c_objects.proofs.sums_intersection.SeededSumsIntersectionAcceptsSeededSums.add.Goals as goal

pub returns : goal.returns
returns c =
    let view = c.as_view.result in (
      meets_same _ _ _ _ c.args.self.now c.add.result c.add.new.object c.as_view.ensures.shows c.as_view.ensures.sequence c.add.ensures,
      λ ok lg_k start seed givens more is given.
          let one = sample_given (shows tuple_key view) (shows tuple_key view) (sequence view) (sequence view) c.args.self.now c.add.result c.add.new.object in
          one c.add.ensures ok givens more is (c.as_view.ensures.sample lg_k start seed more given),
    )
