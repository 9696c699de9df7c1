use Rattle.std.proofs.Common.{arith}
use Rattle.std.specs.Simd.Lanes.{chunk}
use Rattle.std.proofs.lemmas.Simd.{length-chunk}
use Rattle.keys_lines.proofs.Cutting.{none_marked, first_marked_is}
use Rattle.keys_lines.proofs.cut.first_of_lanes.Goals as goal

pub returns-then-marks-eq0 : goal.returns-then-marks-eq0
returns-then-marks-eq0 c =
    none_marked c.args.byte c.marks_of-marks.result 32 (chunk c.args.from 32 c.args.text.now) (length-chunk c.args.from 32 c.args.text.now c.requires) (omega arith) c.marks_of-marks.ensures c.if-marks-eq0.true

pub returns-else-marks-eq0 : goal.returns-else-marks-eq0
returns-else-marks-eq0 c =
    first_marked_is c.args.byte c.marks_of-marks.result 32 (chunk c.args.from 32 c.args.text.now) (length-chunk c.args.from 32 c.args.text.now c.requires) (omega arith) c.marks_of-marks.ensures c.if-marks-eq0.false
