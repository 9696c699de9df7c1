use Rattle.std.proofs.Common.{refl, sym, subst, ◌∙◌}
use Rattle.std.specs.Prelude.{IfErr}
use Rattle.std.proofs.lemmas.Result.{err_from_is_err_and}
use Rattle.std.specs.Option.{option_map}
use Rattle.distinct_arguments.specs.Faults.{options_of}
use Rattle.distinct_messages.specs.Failures.{UnreadableIf}
use Rattle.distinct_inputs.specs.Failures.{AreCounted, IsOfEitherUnion}
use Rattle.distinct_inputs.specs.Images.{images_of, remaining_images}
use Rattle.distinct_commands.proofs.NextImages.{all_images}
use Rattle.distinct_commands.proofs.OnlyMemory.{policy_of_sums, data_of_images}
use Rattle.distinct_commands.proofs.job.Job.union_of_inputs.Goals as goal

pub returns-clause-failed : goal.returns-clause-failed
returns-clause-failed g c =
    let options = options_of c.args.self.options.now in
    let images = c.of-images.result in
    let seed = c.args.self.seed in
    let f = c.union_failure.result in
    let u = c.in-Err-Refused.field-0 in
    let e = c.in-Err-Refused.error in
    let left = remaining_images g.S.Source.Read.remaining g.S.Sources.texts images in
    subst (λ inputs. IsOfEitherUnion options seed (option_map (images_of options.sums options.hex) (g.S.Sources.texts inputs.sources)) f) c.of-images.ensures.inputs
    (subst (λ all. IsOfEitherUnion options seed all f) (all_images g.S.Source.Read.remaining g.S.Sources.texts images options.sums options.hex c.of-images.ensures.sums c.of-images.ensures.hex c.of-images.ensures.closed)
    (c.union_failure.ensures.of_union seed left
    (λ policy. policy_of_sums options.sums seed left u e c.in-Err-Refused.field-0-is c.in-Err-Refused.ensures.refused (sym c.in-Err-Refused.error-is ∙ policy))
    (λ data_is. data_of_images options.sums seed left u e c.in-Err-Refused.field-0-is c.in-Err-Refused.ensures.refused (sym c.in-Err-Refused.error-is ∙ data_is))))

pub returns-in_err-check_count-in-Ok-clause-failed : goal.returns-in_err-check_count-in-Ok-clause-failed
returns-in_err-check_count-in-Ok-clause-failed g c =
    let options = options_of c.args.self.options.now in
    let images = c.of-images.result in
    let seed = c.args.self.seed in
    let found = c.in-Ok.united.count in
    let texts = option_map (images_of options.sums options.hex) (g.S.Sources.texts c.args.self.inputs.sources) in
    let p = err_from_is_err_and c.from_residual.result c.from_residual.ensures.1 in
    let counted = subst (λ inputs. AreCounted found (option_map (images_of options.sums options.hex) (g.S.Sources.texts inputs.sources))) c.of-images.ensures.inputs
    (subst (λ all. AreCounted found all) (all_images g.S.Source.Read.remaining g.S.Sources.texts images options.sums options.hex c.of-images.ensures.sums c.of-images.ensures.hex c.of-images.ensures.closed) c.in-Ok.ensures.counted) in
    subst (λ r. IfErr r (IsOfEitherUnion options seed texts)) (sym p.1) (subst (IsOfEitherUnion options seed texts) (sym p.2)
    (c.in_err-check_count-in-Ok.ensures.of_union options seed texts refl counted))

pub returns-clause-fallible : goal.returns-clause-fallible
returns-clause-fallible g c = c.union_failure.ensures.fallible g.S.Sources.may_fail

pub returns-in_err-check_count-in-Ok-clause-fallible : goal.returns-in_err-check_count-in-Ok-clause-fallible
returns-in_err-check_count-in-Ok-clause-fallible g c =
    let unreadable = UnreadableIf g.S.Sources.may_fail in
    let p = err_from_is_err_and c.from_residual.result c.from_residual.ensures.1 in
    subst (λ r. IfErr r unreadable) (sym p.1) (subst unreadable (sym p.2) (c.in_err-check_count-in-Ok.ensures.fallible g.S.Sources.may_fail))
