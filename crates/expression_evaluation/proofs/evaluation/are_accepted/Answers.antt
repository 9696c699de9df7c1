use Rattle.std.proofs.Common.{true, false, sym, ◌∙◌}
use Rattle.expression_evaluation.proofs.RunSteps.{accepted_next, accepted_end}
use Rattle.expression_evaluation.proofs.evaluation.are_accepted.Goals as goal

pub loop-sketch-preserved : goal.loop-sketch-preserved
loop-sketch-preserved g c =
    let f = g.F.SetFamily in
    c.loop-sketch.invariant ∙ accepted_next (f.rules c.args.family.now) f.named c.args.hash c.args.sketches.now c.loop-sketch.sketch-index c.sketch-item.result true c.loop-sketch-test.true c.sketch-item.is (sym c.is_accepted.ensures ∙ c.if-not-is_accepted.false)

pub returns-then-not-is_accepted : goal.returns-then-not-is_accepted
returns-then-not-is_accepted g c =
    let f = g.F.SetFamily in
    sym (c.loop-sketch.invariant ∙ accepted_next (f.rules c.args.family.now) f.named c.args.hash c.args.sketches.now c.loop-sketch.sketch-index c.sketch-item.result false c.loop-sketch-test.true c.sketch-item.is (sym c.is_accepted.ensures ∙ c.if-not-is_accepted.true))

pub returns : goal.returns
returns g c = let f = g.F.SetFamily in sym (c.loop-sketch.invariant ∙ accepted_end (f.rules c.args.family.now) f.named c.args.hash c.args.sketches.now c.loop-sketch.sketch-index c.loop-sketch-test.false)
