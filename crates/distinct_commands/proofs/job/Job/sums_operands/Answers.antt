use Rattle.std.proofs.Common.{ℕ, true, List, sym, subst, ◌∙◌}
use Rattle.std.specs.Prelude.{IfSome}
use Rattle.std.specs.Option.{option_map}
use Rattle.keys_sums.specs.Images.{AreReadSums}
use Rattle.distinct_inputs.specs.Failures.{IsOfImages}
use Rattle.distinct_inputs.specs.Images.{images_of, remaining_images}
use Rattle.distinct_commands.proofs.NextImages.{all_hold, all_images}
use Rattle.distinct_commands.proofs.OnlyMemory.{data_of_sums}
use Rattle.distinct_commands.proofs.job.Job.sums_operands.Goals as goal

pub returns-in-Ok-clause-operands : goal.returns-in-Ok-clause-operands
returns-in-Ok-clause-operands g c =
    let images = c.of-images.result in
    let hex = c.args.self.options.now.hex in
    let seed = c.args.self.seed in
    let sketches = c.in-Ok.sketches.items in
    let P : List (List ℕ) → Type 0 = λ all. AreReadSums seed all sketches in
    let left = all_hold g.S.Source.Read.remaining g.S.Sources.texts images true hex P c.of-images.ensures.sums c.of-images.ensures.hex c.of-images.ensures.closed c.in-Ok.ensures.read in
    subst (λ inputs. IfSome (g.S.Sources.texts inputs.sources) (λ all. AreReadSums seed (images_of true hex all) sketches)) c.of-images.ensures.inputs left

pub returns-clause-failed : goal.returns-clause-failed
returns-clause-failed g c =
    let images = c.of-images.result in
    let hex = c.args.self.options.now.hex in
    let seed = c.args.self.seed in
    let f = c.image_failure.result in
    let left = remaining_images g.S.Source.Read.remaining g.S.Sources.texts images in
    subst (λ inputs. IsOfImages true hex seed (option_map (images_of true hex) (g.S.Sources.texts inputs.sources)) f) c.of-images.ensures.inputs
    (subst (λ all. IsOfImages true hex seed all f) (all_images g.S.Source.Read.remaining g.S.Sources.texts images true hex c.of-images.ensures.sums c.of-images.ensures.hex c.of-images.ensures.closed)
    (c.image_failure.ensures.of_images seed left (λ data_is. data_of_sums seed left c.in-Err-Refused.field-0 c.in-Err-Refused.error c.in-Err-Refused.field-0-is c.in-Err-Refused.ensures.refused (sym c.in-Err-Refused.error-is ∙ data_is))))
