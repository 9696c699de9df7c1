use Rattle.sketch_base.specs.Seed.{seed_hash}
use Rattle.plan_evaluation.proofs.evaluation.MergedSketches.{summed_sketch}
use Rattle.plan_evaluation.proofs.plans.evaluate_sums.Goals as goal

pub returns-clause-sums : goal.returns-clause-sums
returns-clause-sums g c =
    summed_sketch g.S.CheckedSum.whole g.S.CheckedSum.least g.S.CheckedSum.greatest g.S.CheckedSum.ZERO g.S.CheckedSum.sums g.met.S.CheckedSum.zero g.met.S.CheckedSum.summed c.args.seed c.args.plan.now (seed_hash c.args.seed) c.evaluate_tuple.result c.evaluate_tuple.ensures.plan.accepted c.evaluate_tuple.ensures.plan.value
