use Rattle.std.proofs.Common.{◌^◌}
use Rattle.theta_sketches.proofs.Streams.{fewer}
use Rattle.theta_sketches.specs.Streams.{view_value}
use Rattle.theta_sketches.specs.View.{view_shows, view_sequence}
use Rattle.c_objects.proofs.Merges.{adds_same, part_given}
use Rattle.c_objects.proofs.union.SeededUnionAcceptsSeededSketch.add.Goals as goal

pub returns : goal.returns
returns c =
    let view = c.as_view.result in (
      adds_same _ _ _ _ c.args.self.now c.add.result c.add.new.union c.as_view.ensures.shows c.as_view.ensures.sequence c.add.ensures,
      λ ok lg_k k start own seed hashes more enough is given.
          let part = fewer k (2 ^ own) start (view_value view) more enough (c.as_view.ensures.part own start seed more given) in
          let one = part_given (view_shows view) (view_shows view) (view_sequence view) (view_sequence view) c.args.self.now c.add.result c.add.new.union in
          one c.add.ensures ok lg_k k start hashes more is part,
    )
