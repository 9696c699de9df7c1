use Rattle.std.proofs.Common.{◌≡◌, ℕ, Bool, true, List, Vec, Global, ap, sym, subst, ◌∙◌}
use Rattle.std.specs.Prelude.{IfSome}
use Rattle.std.specs.Option.{option_map}
use Rattle.distinct_arguments.specs.Faults.{options_of}
use Rattle.distinct_inputs.specs.Failures.{IsOfEitherUnion}
use Rattle.distinct_inputs.specs.Images.{images_of, remaining_images, HasNoSketch}
use Rattle.distinct_commands.specs.Visits.{IsVisitsOfImages}
use Rattle.distinct_commands.proofs.Answered.{visited}
use Rattle.distinct_commands.proofs.NextImages.{all_hold, all_images}
use Rattle.distinct_commands.proofs.OnlyMemory.{data_of_images}
use Rattle.distinct_commands.proofs.job.Job.visit_images.Goals as goal

pub returns-in-Ok-clause-printed : goal.returns-in-Ok-clause-printed
returns-in-Ok-clause-printed g c =
    let options = options_of c.args.self.options.now in
    let images = c.of-images.result in
    let seed = c.args.self.seed in
    let out = c.into_bytes.result.items in
    let P : List (List ℕ) → Type 0 = λ all. IsVisitsOfImages options seed all out in
    let known = remaining_images g.S.Source.Read.remaining g.S.Sources.texts images in
    let printed = visited known options seed c.in-Ok.united.sketch out c.in-Ok.ensures.united c.in-Ok.ensures.apart (ap (λ (v : Vec ℕ Global). v.items) c.into_bytes.ensures.value ∙ c.in_ok-text-in-Ok.ensures) in
    let left = all_hold g.S.Source.Read.remaining g.S.Sources.texts images true options.hex P c.of-images.ensures.sums c.of-images.ensures.hex c.of-images.ensures.closed printed in
    subst (λ inputs. IfSome (g.S.Sources.texts inputs.sources) (λ all. P (images_of true options.hex all))) c.of-images.ensures.inputs left

pub returns-clause-failed : goal.returns-clause-failed
returns-clause-failed g c =
    let options = options_of c.args.self.options.now in
    let images = c.of-images.result in
    let seed = c.args.self.seed in
    let f = c.union_failure.result in
    let left = remaining_images g.S.Source.Read.remaining g.S.Sources.texts images in
    let sums : images.sums ≡ options.sums = c.of-images.ensures.sums ∙ sym c.requires.sums in
    subst (λ inputs. IsOfEitherUnion options seed (option_map (images_of options.sums options.hex) (g.S.Sources.texts inputs.sources)) f) c.of-images.ensures.inputs
    (subst (λ all. IsOfEitherUnion options seed all f) (all_images g.S.Source.Read.remaining g.S.Sources.texts images options.sums options.hex sums c.of-images.ensures.hex c.of-images.ensures.closed)
    (c.union_failure.ensures.of_union seed left (λ policy. c.requires.sums)
    (λ data_is. subst (λ (b : Bool). HasNoSketch b seed left) (sym c.requires.sums) (data_of_images true seed left c.in-Err-Refused.field-0 c.in-Err-Refused.error c.in-Err-Refused.field-0-is c.in-Err-Refused.ensures.refused (sym c.in-Err-Refused.error-is ∙ data_is)))))

pub returns-clause-fallible : goal.returns-clause-fallible
returns-clause-fallible g c = c.union_failure.ensures.fallible g.S.Sources.may_fail
