use Rattle.std.proofs.lemmas.Result.{on_ok_weaker}
use Rattle.sketch_base.specs.Seed.{seed_hash}
use Rattle.core_laws.specs.Folds.{never}
use Rattle.plan_values.specs.Family.{hashes, folds_of}
use Rattle.plan_values.proofs.KnownFamilies.{hashes_keep}
use Rattle.plan_values.proofs.TrimmedLeaf.{lawful_leaf}
use Rattle.plan_values.proofs.ThetaPlans.{whole_kept, merge_kept, value_trimmed}
use Rattle.plan_evaluation.proofs.evaluation.OrderedSketches.{theta_sketch, refused_settings}
use Rattle.plan_evaluation.proofs.plans.evaluate_theta.Goals as goal

pub returns : goal.returns
returns g c = record {
  plan = record {
    value = theta_sketch c.args.plan.now (seed_hash c.args.seed) c.ordered_sketch.result c.ordered_sketch.ensures.value;
    whole = on_ok_weaker c.ordered_sketch.result (λ accepted. whole_kept c.args.seed c.args.plan.now accepted) c.ordered_sketch.ensures.accepted;
    merged = λ lg_k start merge. on_ok_weaker c.ordered_sketch.result (λ accepted. merge_kept c.args.seed c.args.plan.now accepted lg_k start merge) c.ordered_sketch.ensures.accepted;
    lawful = on_ok_weaker c.ordered_sketch.result (lawful_leaf hashes hashes_keep c.args.seed c.args.plan.now) c.ordered_sketch.ensures.accepted;
    trimmed = λ lg_k start steps is sketch_after. on_ok_weaker c.ordered_sketch.result (value_trimmed c.args.seed lg_k start steps c.args.plan.now is sketch_after) c.ordered_sketch.ensures.accepted;
    refused = refused_settings (folds_of hashes never) c.args.seed c.args.plan.now c.ordered_sketch.result c.ordered_sketch.ensures.accepted c.ordered_sketch.ensures.refused;
  };
}
