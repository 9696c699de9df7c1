use Rattle.core_slots.specs.Entry.{tuple_key}
use Rattle.expression_evaluation.proofs.TwoSketches.{result_answer}
use Rattle.expression_evaluation.proofs.sums.intersection_sketch.Goals as goal

pub returns-in-Some-clause-value : goal.returns-in-Some-clause-value
returns-in-Some-clause-value g c = λ v is. result_answer tuple_key c.args.intersection.now.state.result c.args.intersection.now.state.seed_hash c.in_ok-sketch.field-0 c.in-Some.sketch c.in-Some.is c.in_ok-sketch.ensures.ok v is
