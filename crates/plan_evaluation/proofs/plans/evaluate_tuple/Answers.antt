use Rattle.std.proofs.Common.{◌^◌}
use Rattle.std.proofs.lemmas.Result.{on_ok_weaker}
use Rattle.sketch_base.specs.Seed.{seed_hash}
use Rattle.core_laws.specs.Leaf.{added}
use Rattle.core_slots.specs.Entry.{tuple_key}
use Rattle.plan_values.specs.Family.{tuple_folds}
use Rattle.plan_values.specs.WholeStreams.{whole_hashes}
use Rattle.plan_values.proofs.AddedKeys.{tuple_keys, tuple_leaf_keys}
use Rattle.plan_values.proofs.AddedValues.{merges_unite}
use Rattle.plan_values.proofs.KnownFamilies.{tuple_folds_keep}
use Rattle.plan_values.proofs.MergePlans.{merge_plan}
use Rattle.plan_values.proofs.Samples.{sampled}
use Rattle.plan_values.proofs.TrimmedLeaf.{lawful_leaf, trimmed_plan}
use Rattle.plan_evaluation.proofs.evaluation.MergedSketches.{merged_keys}
use Rattle.plan_evaluation.proofs.evaluation.OrderedSketches.{refused_policy}
use Rattle.plan_evaluation.proofs.plans.evaluate_tuple.Goals as goal

pub returns : goal.returns
returns g c = record {
  plan = record {
    value = rw (c.new-family.ensures.updates, c.new-family.ensures.combines) at c.ordered_sketch.ensures.value;
    whole = on_ok_weaker c.ordered_sketch.result (λ accepted. (sampled _ _ (tuple_folds_keep _ _ _) c.args.seed c.args.plan.now accepted).all_below) c.ordered_sketch.ensures.accepted;
    merged = λ lg_k start merge. on_ok_weaker c.ordered_sketch.result (λ accepted. merge_plan _ (tuple_folds_keep _ _ _) c.args.seed c.args.plan.now accepted lg_k start merge) c.ordered_sketch.ensures.accepted;
    kmin = λ lg_k start merge.
        merged_keys tuple_key (2 ^ lg_k) start _ (whole_hashes c.args.plan.now) _ (seed_hash c.args.seed) c.ordered_sketch.result
        (tuple_keys _ _ _ c.args.plan.now (merges_unite _ lg_k start c.args.plan.now merge.below_it))
        (on_ok_weaker c.ordered_sketch.result (λ accepted. merge_plan _ (tuple_folds_keep _ _ _) c.args.seed c.args.plan.now accepted lg_k start merge) c.ordered_sketch.ensures.accepted)
        (rw (c.new-family.ensures.updates, c.new-family.ensures.combines) at c.ordered_sketch.ensures.value);
    lawful = on_ok_weaker c.ordered_sketch.result (lawful_leaf _ (tuple_folds_keep _ _ _) c.args.seed c.args.plan.now) c.ordered_sketch.ensures.accepted;
    trimmed = λ lg_k start steps is sketch_after. on_ok_weaker c.ordered_sketch.result (trimmed_plan _ (tuple_folds_keep _ _ _) c.args.seed lg_k start steps c.args.plan.now is sketch_after) c.ordered_sketch.ensures.accepted;
    trimmed_kmin = λ lg_k start steps is sketch_after.
        merged_keys tuple_key (2 ^ lg_k) start _ (added steps) _ (seed_hash c.args.seed) c.ordered_sketch.result
        (tuple_leaf_keys _ _ (g.Q.SummaryCombinePolicy.combines c.args.combine_policy) g.row.B.Denot steps)
        (on_ok_weaker c.ordered_sketch.result (trimmed_plan _ (tuple_folds_keep _ _ _) c.args.seed lg_k start steps c.args.plan.now is sketch_after) c.ordered_sketch.ensures.accepted)
        (rw (c.new-family.ensures.updates, c.new-family.ensures.combines) at c.ordered_sketch.ensures.value);
    accepted = c.ordered_sketch.ensures.accepted;
    unrefused = rw (c.new-family.ensures.updates, c.new-family.ensures.combines) at c.ordered_sketch.ensures.unrefused;
    refused = refused_policy (tuple_folds (g.P.SummaryPolicy.creates c.args.update_policy) (g.P.SummaryUpdatePolicy.updates c.args.update_policy) (g.Q.SummaryCombinePolicy.combines c.args.combine_policy)) c.args.seed c.args.plan.now c.ordered_sketch.result
        (rw (c.new-family.ensures.updates, c.new-family.ensures.combines) at c.ordered_sketch.ensures.refused);
  };
}
