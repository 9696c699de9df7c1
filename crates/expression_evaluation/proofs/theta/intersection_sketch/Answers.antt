use Rattle.core_laws.specs.Entries.{hash_key}
use Rattle.expression_evaluation.proofs.TwoSketches.{result_answer}
use Rattle.expression_evaluation.proofs.theta.intersection_sketch.Goals as goal

pub returns-in-Some-clause-value : goal.returns-in-Some-clause-value
returns-in-Some-clause-value g c = λ v is. result_answer hash_key c.args.intersection.now.result c.args.intersection.now.seed_hash c.in_ok-sketch.field-0 c.in-Some.sketch c.in-Some.is c.in_ok-sketch.ensures.ok v is
