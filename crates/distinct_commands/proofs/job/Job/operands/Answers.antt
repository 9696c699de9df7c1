use Rattle.std.proofs.Common.{ℕ, Bool, false, List, sym, subst}
use Rattle.std.specs.Prelude.{IfSome, IfOk, IfErr}
use Rattle.std.specs.Option.{option_map}
use Rattle.keys_sketches.specs.Shards.{AreRead}
use Rattle.distinct_arguments.specs.Faults.{options_of}
use Rattle.distinct_commands.specs.Eval.{AreOperands}
use Rattle.distinct_inputs.specs.Failures.{IsOfImages}
use Rattle.distinct_commands.specs.Failing.{IsOfNames}
use Rattle.distinct_inputs.specs.Images.{images_of}
use Rattle.distinct_commands.proofs.NextImages.{all_hold, all_images}
use Rattle.distinct_commands.proofs.job.Job.operands.Goals as goal

pub returns-clause-operands : goal.returns-clause-operands
returns-clause-operands g c =
    let images = c.new-images.result in
    let options = c.args.self.options.now in
    let seed = c.args.self.seed in
    let result = c.all_sketches-sketches.result in
    let P : List (List ℕ) → Type 0 = λ all. IfOk result (λ v. AreRead seed all v.items) in
    let left = all_hold g.S.Source.Read.remaining g.S.Sources.texts images false options.hex P c.new-images.ensures.sums c.new-images.ensures.hex c.new-images.ensures.closed c.all_sketches-sketches.ensures.read in
    subst (λ (keys : Bool). IfSome (g.S.Sources.texts c.args.self.inputs.sources) (λ texts. IfOk result (λ v. AreOperands keys (options_of options) seed texts v.items))) (sym c.if-self.false)
    (subst (λ inputs. IfSome (g.S.Sources.texts inputs.sources) (λ all. IfOk result (λ v. AreRead seed (images_of false options.hex all) v.items))) c.new-images.ensures.inputs left)

pub returns-clause-failed : goal.returns-clause-failed
returns-clause-failed g c =
    let images = c.new-images.result in
    let hex = c.args.self.options.now.hex in
    let seed = c.args.self.seed in
    let result = c.all_sketches-sketches.result in
    subst (λ (keys : Bool). IfErr result (IsOfNames keys hex seed (g.S.Sources.texts c.args.self.inputs.sources))) (sym c.if-self.false)
    (subst (λ inputs. IfErr result (IsOfImages false hex seed (option_map (images_of false hex) (g.S.Sources.texts inputs.sources)))) c.new-images.ensures.inputs
    (subst (λ all. IfErr result (IsOfImages false hex seed all)) (all_images g.S.Source.Read.remaining g.S.Sources.texts images false hex c.new-images.ensures.sums c.new-images.ensures.hex c.new-images.ensures.closed) c.all_sketches-sketches.ensures.failed))
