use Rattle.std.proofs.Common.{rules}
use Rattle.core_laws.specs.Entries.{hash_key}
use Rattle.core_laws.specs.Folds.{never}
use Rattle.theta_sketches.specs.View.{view_shows, view_sequence}
use Rattle.plan_values.specs.Family.{hashes}
use Rattle.plan_evaluation.proofs.families.Joining.{joins_plain}
use Rattle.plan_evaluation.proofs.families.Shown.{apart_lent}
use Rattle.plan_evaluation.proofs.theta.ThetaFamilySketchFamily.join.Goals as goal

pub returns-clause-joins : goal.returns-clause-joins
returns-clause-joins g c = record {
  value =
      joins_plain (hashes {V = Unit {0}}) never (λ x y same. same) c.args.union.now c.update.new.self (view_shows c.view-shown.result) (view_sequence c.view-shown.result)
      c.update.ensures.sound c.requires.at_work c.update.ensures.content.ascending (apart_lent hash_key c.view-shown.result.sketch c.in_ok-update.ensures.shown)
      c.in_ok-update.ensures.skipped c.in_ok-update.ensures.joined _ c.view-shown.ensures.value;
  made_with = search (rules);
  holds = λ whole arriving up down held below. tt;
}
