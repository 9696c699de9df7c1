use Rattle.std.proofs.Common.{ap, ◌∙◌}
use Rattle.std.proofs.lemmas.Result.{IfOk-weaker}
use Rattle.keys_sketches.specs.Keys.{sketch_of_value}
use Rattle.keys_sketches.proofs.Meets.{some_answer, no_answer}
use Rattle.keys_sketches.proofs.images.sketch_of.Goals as goal

pub returns-in-Some-clause-value : goal.returns-in-Some-clause-value
returns-in-Some-clause-value g c = λ same.
    some_answer c.args.seed c.args.intersection.now.result c.args.intersection.now.seed_hash c.in_ok-sketch.field-0 c.in-Some.sketch c.in-Some.is same c.in_ok-sketch.ensures.ok

pub returns-in-None-clause-value : goal.returns-in-None-clause-value
returns-in-None-clause-value g c = λ same.
    IfOk-weaker c.empty_sketch.result _ _ (λ s is. is ∙ ap (sketch_of_value c.args.seed) (no_answer c.args.intersection.now.result c.args.intersection.now.seed_hash c.in_ok-sketch.field-0 c.in-None.is c.in_ok-sketch.ensures.ok)) c.empty_sketch.ensures.empty
