use Rattle.std.proofs.Common.{inr}
use Rattle.std.proofs.lemmas.Result.{err_from_is_err_and}
use Rattle.plan_values.specs.Family.{folds_of}
use Rattle.plan_values.proofs.KnownFamilies.{folds_keep}
use Rattle.core_streams.proofs.WholeMaps.{made_again}
use Rattle.plan_evaluation.proofs.evaluation.LeafSteps.{kept_stepped, unrefused_stepped, empty_stepped, refused_stepped}
use Rattle.plan_evaluation.proofs.evaluation.Results.{for_other}
use Rattle.plan_evaluation.proofs.evaluate.sketch_after.Goals as goal

pub returns-in_err-apply-clause-refused : goal.returns-in_err-apply-clause-refused
returns-in_err-apply-clause-refused g c =
    let p = err_from_is_err_and c.from_residual-in_err-apply.result c.from_residual-in_err-apply.ensures.1 in
    let rules = g.F.SketchFamily.rules c.args.family.now in
    let refuses = g.F.SketchFamily.refuses c.args.family.now in
    let f = folds_of rules refuses in
    let lawful = folds_keep rules refuses (g.met.F.SketchFamily.keeps c.args.family.now) in
    let i = c.loop-step.step-index in
    rw (p.1, p.2) (inr (for_other _ g.F.SketchFamily.strict
    (λ marks. (
      c.in_ok-sketch.ensures.refused,
      refused_stepped f lawful c.args.lg_k c.args.start c.args.seed c.args.steps.now i c.step-item.result c.loop-step-test.true (g.F.SketchFamily.state c.loop-step.sketch).map.kept c.loop-step.invariant.kept (rw c.step-item.is at marks),
    ))
    c.in_err-apply.ensures.refused))

pub loop-step-preserved : goal.loop-step-preserved
loop-step-preserved g c =
    let rules = g.F.SketchFamily.rules c.args.family.now in
    let refuses = g.F.SketchFamily.refuses c.args.family.now in
    let f = folds_of rules refuses in
    let lawful = folds_keep rules refuses (g.met.F.SketchFamily.keeps c.args.family.now) in
    let was = g.F.SketchFamily.state c.loop-step.sketch in
    let now = g.F.SketchFamily.state c.apply.new.sketch in
    let i = c.loop-step.step-index in
    let d = c.step-item.result in
    record {
      own = c.in_ok-apply.ensures.still;
      kept = kept_stepped f lawful c.args.lg_k c.args.start c.args.seed c.args.steps.now i d c.loop-step-test.true was.map now.map c.loop-step.invariant.kept c.loop-step.invariant.made (rw c.step-item.is at c.in_ok-apply.ensures.map);
      made = made_again c.args.lg_k c.args.start c.args.seed was.map now.map c.loop-step.invariant.made c.in_ok-apply.ensures.made_with;
      unrefused = unrefused_stepped f lawful c.args.lg_k c.args.start c.args.seed c.args.steps.now i d c.loop-step-test.true was.map.kept c.loop-step.invariant.kept c.loop-step.invariant.unrefused (rw c.step-item.is at c.in_ok-apply.ensures.unrefused);
      empty = empty_stepped f lawful c.args.lg_k c.args.start c.args.seed c.args.steps.now i d c.loop-step-test.true was.empty now.empty c.loop-step.invariant.empty (rw c.step-item.is at c.in_ok-apply.ensures.empty);
    }
