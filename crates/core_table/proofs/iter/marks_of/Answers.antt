use Rattle.std.proofs.Common.{arith}
use Rattle.core_table.specs.Marks.{under}
use Rattle.core_table.proofs.Marks.{marks_fit, mark_more, one_at_most}
use Rattle.core_table.proofs.iter.marks_of.Goals as goal

pub overflow_mul-marks : goal.overflow_mul-marks
overflow_mul-marks g c =
    omega (arith, marks_fit (under g.E.SketchEntry.key c.args.bound g.E.PathEntry.content) c.args.slots.now c.loop-i.i c.loop-i.marks c.loop-i-test.true c.requires c.loop-i.invariant.reported)

pub overflow_add-marks : goal.overflow_add-marks
overflow_add-marks g c =
    omega (arith, one_at_most (under g.E.SketchEntry.key c.args.bound g.E.PathEntry.content c.index-slots-slots.result), c.mark_of.ensures, marks_fit (under g.E.SketchEntry.key c.args.bound g.E.PathEntry.content) c.args.slots.now c.loop-i.i c.loop-i.marks c.loop-i-test.true c.requires c.loop-i.invariant.reported)

pub loop-i-preserved : goal.loop-i-preserved
loop-i-preserved g c = record {
  within = omega arith;
  reported = mark_more (under g.E.SketchEntry.key c.args.bound g.E.PathEntry.content) c.args.slots.now c.loop-i.i c.loop-i.marks c.mark_of.result c.index-slots-slots.result c.loop-i-test.true c.index-slots-slots.is c.mark_of.ensures c.loop-i.invariant.reported;
}
