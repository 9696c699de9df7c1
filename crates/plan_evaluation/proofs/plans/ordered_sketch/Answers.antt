use Rattle.sketch_base.specs.Seed.{seed_hash}
use Rattle.plan_values.specs.Family.{folds_of}
use Rattle.plan_values.specs.Outcome.{is_leaf, orders_itself}
use Rattle.plan_values.specs.Value.{value_in}
use Rattle.plan_evaluation.proofs.evaluation.OrderedSketches.{answers_ordered}
use Rattle.plan_evaluation.proofs.plans.ordered_sketch.Goals as goal

pub returns-clause-value : goal.returns-clause-value
returns-clause-value g c =
    let rules = g.F.SketchFamily.rules c.args.family.now in
    let f = folds_of rules (g.F.SketchFamily.refuses c.args.family.now) in
    let p = c.args.plan.now in
    answers_ordered rules.key g.F.SketchFamily.listed (value_in f p) (seed_hash c.args.seed) (orders_itself f p) c.into_compact.result
    (c.into_compact.ensures.ok (is_leaf f p) (value_in f p) (seed_hash c.args.seed) (orders_itself f p) c.in_ok-sketch.ensures.value)
