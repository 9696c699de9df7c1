use Rattle.expression_evaluation.specs.Values.{hash_rules}
use Rattle.expression_evaluation.proofs.WholeSets.{expression_sample}
use Rattle.expression_evaluation.proofs.laws.expressions_of_samples.Goals as goal

pub returns : goal.returns
returns c = λ lg_k values sets e all. expression_sample hash_rules (λ x y same. same) lg_k values sets e all
