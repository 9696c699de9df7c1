use Rattle.std.proofs.Common.{◌+◌, arith}
use Rattle.keys_lines.proofs.Cutting.{none_more, present, parts_at, lacks_front}
use Rattle.keys_lines.proofs.cut.cut_at.Goals as goal

pub returns-then-count-lt-LANES-clause-lacks : goal.returns-then-count-lt-LANES-clause-lacks
returns-then-count-lt-LANES-clause-lacks c =
    lacks_front c.args.byte c.args.text.now (c.loop-from.from + c.first_of_lanes-count.result) (omega arith)
    (none_more c.args.byte c.args.text.now c.loop-from.from 32 c.first_of_lanes-count.result (omega arith) c.first_of_lanes-count.ensures c.loop-from.invariant.none)

pub returns-then-count-lt-LANES-clause-parts : goal.returns-then-count-lt-LANES-clause-parts
returns-then-count-lt-LANES-clause-parts c =
    parts_at c.args.byte c.args.text.now (c.loop-from.from + c.first_of_lanes-count.result) (omega arith)
    (present c.args.byte c.args.text.now c.loop-from.from 32 c.first_of_lanes-count.result (omega arith) c.first_of_lanes-count.ensures c.if-count-lt-LANES.true)

pub loop-from-preserved : goal.loop-from-preserved
loop-from-preserved c = record {
  within = omega arith;
  none = λ k lt e. none_more c.args.byte c.args.text.now c.loop-from.from 32 c.first_of_lanes-count.result (omega arith) c.first_of_lanes-count.ensures c.loop-from.invariant.none k (omega arith) e;
}

pub returns-then-count-lt-FEW-clause-lacks : goal.returns-then-count-lt-FEW-clause-lacks
returns-then-count-lt-FEW-clause-lacks c =
    lacks_front c.args.byte c.args.text.now (c.loop-from-2.from + c.first_of_few-count.result) (omega arith)
    (none_more c.args.byte c.args.text.now c.loop-from-2.from 8 c.first_of_few-count.result (omega arith) c.first_of_few-count.ensures c.loop-from-2.invariant.none)

pub returns-then-count-lt-FEW-clause-parts : goal.returns-then-count-lt-FEW-clause-parts
returns-then-count-lt-FEW-clause-parts c =
    parts_at c.args.byte c.args.text.now (c.loop-from-2.from + c.first_of_few-count.result) (omega arith)
    (present c.args.byte c.args.text.now c.loop-from-2.from 8 c.first_of_few-count.result (omega arith) c.first_of_few-count.ensures c.if-count-lt-FEW.true)

pub loop-from-2-preserved : goal.loop-from-2-preserved
loop-from-2-preserved c = record {
  within = omega arith;
  none = λ k lt e. none_more c.args.byte c.args.text.now c.loop-from-2.from 8 c.first_of_few-count.result (omega arith) c.first_of_few-count.ensures c.loop-from-2.invariant.none k (omega arith) e;
}
