use Rattle.std.proofs.Common.{refl, ap}
use Rattle.std.specs.Prelude.{◌||◌}
use Rattle.core_laws.specs.Entries.{hash_key}
use Rattle.core_laws.specs.Shown.{shown_value}
use Rattle.theta_sketches.specs.View.{view_shows, view_sequence}
use Rattle.plan_evaluation.proofs.families.Differences.{fold_answer}
use Rattle.plan_evaluation.proofs.theta.ThetaFamilySketchFamily.a_not_b.Goals as goal

pub returns-clause-ok : goal.returns-clause-ok
returns-clause-ok g c =
    fold_answer hash_key (shown_value hash_key (view_shows c.view-a.result) (view_sequence c.view-a.result)) (shown_value hash_key (view_shows c.view-b.result) (view_sequence c.view-b.result)) _ _ c.view-a.ensures.value c.view-b.ensures.value
    _ refl _ _ c.view-a.ensures.seed _ _ (ap (λ b. c.args.ordered || b) c.view-a.ensures.ordered) c.compute.result c.compute.ensures.ok
