use Rattle.std.proofs.Common.{subst}
use Rattle.core_images.specs.Read.{IsRefused}
use Rattle.distinct_inputs.specs.Images.{remaining_images}
use Rattle.distinct_inputs.specs.AnySeed.{IsOfSomeSeed}
use Rattle.distinct_commands.proofs.ShownImages.{passes_first}
use Rattle.distinct_commands.proofs.show.next_of_any_seed.Goals as goal

pub returns-in-Ok-Some-clause-passes : goal.returns-in-Ok-Some-clause-passes
returns-in-Ok-Some-clause-passes g c =
    let error = c.in-Err-read_any_seed.error in
    passes_first (λ v. v.items) (remaining_images g.S.Source.Read.remaining g.S.Sources.texts c.args.images.now) (remaining_images g.S.Source.Read.remaining g.S.Sources.texts c.next_image.new.self)
    _ c.in-Ok-Some.image error c.image_failure.result c.in-Ok-Some.ensures.next c.in-Ok-Some.field-0-is
    (subst (λ bytes. IsRefused error (IsOfSomeSeed bytes)) c.as_slice.ensures.value c.in-Err-read_any_seed.ensures.refused) c.image_failure.ensures.memory
