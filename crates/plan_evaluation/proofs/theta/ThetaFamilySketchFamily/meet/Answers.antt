use Rattle.std.proofs.Common.{rules}
use Rattle.core_laws.specs.Entries.{hash_key, first_hash}
use Rattle.core_laws.specs.Shown.{shown_value}
use Rattle.theta_sketches.specs.View.{view_shows, view_sequence}
use Rattle.plan_evaluation.proofs.families.Folds.{meets}
use Rattle.plan_evaluation.proofs.theta.ThetaFamilySketchFamily.meet.Goals as goal

pub returns-clause-meets : goal.returns-clause-meets
returns-clause-meets g c =
    let view = c.view-shown.result in
    record {
      value = meets hash_key first_hash c.update.new.self.result c.args.intersection.now.result (shown_value hash_key (view_shows view) (view_sequence view)) _ c.in_ok-update.ensures.met c.view-shown.ensures.value;
      made_with = search (rules);
    }
