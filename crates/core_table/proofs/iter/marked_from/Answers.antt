use Rattle.std.proofs.Common.{arith, ◌∙◌}
use Rattle.core_table.specs.Marks.{under}
use Rattle.core_table.proofs.Marks.{marked_front, passed_over}
use Rattle.core_table.proofs.iter.marked_from.Goals as goal

pub returns-then-marks-ne0-clause-marked : goal.returns-then-marks-ne0-clause-marked
returns-then-marks-ne0-clause-marked g c =
    marked_front (under g.E.SketchEntry.key c.args.bound g.E.PathEntry.content) c.loop-bound.left.now c.min-ahead.result c.marks_of-marks.result (omega (arith, c.min-ahead.ensures)) (omega (arith, c.min-ahead.ensures)) c.marks_of-marks.ensures

pub loop-bound-preserved : goal.loop-bound-preserved
loop-bound-preserved g c =
    passed_over (under g.E.SketchEntry.key c.args.bound g.E.PathEntry.content) c.loop-bound.left.now c.min-ahead.result c.marks_of-marks.result
    (marked_front (under g.E.SketchEntry.key c.args.bound g.E.PathEntry.content) c.loop-bound.left.now c.min-ahead.result c.marks_of-marks.result (omega (arith, c.min-ahead.ensures)) (omega (arith, c.min-ahead.ensures)) c.marks_of-marks.ensures)
    (omega (arith, c.if-marks-ne0.false))
    ∙ c.loop-bound.invariant
