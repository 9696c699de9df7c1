use Rattle.std.proofs.Common.{◌^◌, ◌∙◌, ap, is_some, sym, refl}
use Rattle.std.proofs.lemmas.Result.{on_ok_weaker, IfErr-weaker}
use Rattle.core_laws.specs.Folds.{Value, fold_key, unmarked}
use Rattle.core_laws.proofs.insertions.FoldedSteps.{unmarked-step}
use Rattle.core_laws.proofs.maps.MappedEntries.{cut-map}
use Rattle.plan_values.proofs.RefusedSteps.{addition_is_refused}
use Rattle.core_streams.proofs.Calls.{on_both}
use Rattle.plan_evaluation.proofs.evaluation.Results.{for_other}
use Rattle.plan_evaluation.proofs.evaluate.apply.Goals as goal

pub returns-in-Add-clause-map : goal.returns-in-Add-clause-map
returns-in-Add-clause-map g c =
    let rules = g.F.SketchFamily.rules c.args.family.now in
    let old = (g.F.SketchFamily.state c.args.sketch.now).map in
    rw c.in-Add.is (on_both c.add.result
    (λ after accepted. ap (λ t. unmarked t.kept) after ∙ unmarked-step rules.key (2 ^ old.lg_nom) c.in-Add.hash (rules.step_of c.in-Add.hash c.in-Add.value) old.kept accepted)
    c.add.ensures.after c.add.ensures.accepted)

pub returns-in-Add-clause-unrefused : goal.returns-in-Add-clause-unrefused
returns-in-Add-clause-unrefused g c =
    let rules = g.F.SketchFamily.rules c.args.family.now in
    rw c.in-Add.is (on_ok_weaker c.add.result
    (λ accepted. addition_is_refused rules (g.F.SketchFamily.refuses c.args.family.now) c.in-Add.hash c.in-Add.value (g.F.SketchFamily.state c.args.sketch.now).map.kept ∙ ap is_some accepted)
    c.add.ensures.accepted)

pub returns-in-Add-clause-refused : goal.returns-in-Add-clause-refused
returns-in-Add-clause-refused g c =
    let rules = g.F.SketchFamily.rules c.args.family.now in
    rw c.in-Add.is (IfErr-weaker c.add.result _ _
    (λ e. for_other e g.F.SketchFamily.strict (λ refused. addition_is_refused rules (g.F.SketchFamily.refuses c.args.family.now) c.in-Add.hash c.in-Add.value (g.F.SketchFamily.state c.args.sketch.now).map.kept ∙ ap is_some refused))
    c.add.ensures.strict)

pub returns-in-Trim-clause-map : goal.returns-in-Trim-clause-map
returns-in-Trim-clause-map g c =
    let key = (g.F.SketchFamily.rules c.args.family.now).key in
    let old = (g.F.SketchFamily.state c.args.sketch.now).map in
    rw c.in-Trim.is (on_ok_weaker c.trim.result
    (λ after. ap (λ t. unmarked t.kept) after ∙ sym (cut-map Value key (fold_key key) (λ y. refl) (2 ^ old.lg_nom) old.kept.entries old.kept.theta))
    c.trim.ensures.after)
