use Rattle.std.proofs.Common.{◌^◌}
use Rattle.core_slots.specs.Entry.{tuple_key}
use Rattle.core_state.specs.View.{shows, sequence}
use Rattle.tuple_sketches.proofs.Streams.{fewer}
use Rattle.tuple_sketches.specs.Streams.{given_numbers, view_value}
use Rattle.c_objects.specs.SumsUnion.{sums_union_mode}
use Rattle.c_objects.proofs.Summed.{adds_same, sums_given}
use Rattle.c_objects.proofs.sums_union.SeededSumsUnionAcceptsSeededSums.add.Goals as goal

pub returns : goal.returns
returns c =
    let view = c.as_view.result in (
      adds_same _ _ _ _ c.args.self.now c.add.result c.add.new.union c.as_view.ensures.shows c.as_view.ensures.sequence c.add.ensures,
      λ ok lg_k k start own seed stream more enough is given.
          let whole = given_numbers (sums_union_mode c.args.self.now) more in
          let part = fewer k (2 ^ own) start (view_value view) whole enough (c.as_view.ensures.part own start seed whole given) in
          let one = sums_given (shows tuple_key view) (shows tuple_key view) (sequence view) (sequence view) c.args.self.now c.add.result c.add.new.union in
          one c.add.ensures ok lg_k k start stream more is part,
    )
