use Rattle.std.proofs.Common.{false, subst}
use Rattle.sketch_base.specs.Seed.{seed_hash}
use Rattle.keys_sketches.proofs.Refused.{read_seed}
use Rattle.distinct_inputs.specs.Images.{remaining_images, IsNoSketch}
use Rattle.distinct_commands.proofs.NextImages.{first_is_none, refused_is_none}
use Rattle.distinct_commands.proofs.combine.next_sketch.Goals as goal

pub returns-in-Ok-clause-seeded : goal.returns-in-Ok-clause-seeded
returns-in-Ok-clause-seeded g c = read_seed _ (seed_hash c.args.seed) c.in-Ok.sketch c.in-Ok.ensures.reads

pub returns-in-Ok-Some-clause-failed : goal.returns-in-Ok-Some-clause-failed
returns-in-Ok-Some-clause-failed g c =
    let old = remaining_images g.S.Source.Read.remaining g.S.Sources.texts c.args.images.now in
    let new = remaining_images g.S.Source.Read.remaining g.S.Sources.texts c.next_image.new.self in
    c.image_failure.ensures.of_images c.args.seed old (λ data_is.
    first_is_none c.args.seed (λ v. v.items) old new c.in-Ok-Some.field-0 c.in-Ok-Some.image c.in-Ok-Some.ensures.next c.in-Ok-Some.field-0-is
    (subst (IsNoSketch false c.args.seed) c.as_slice.ensures.value (refused_is_none c.args.seed c.as_slice.result.now c.in-Err-read_image.error c.in-Err-read_image.ensures.refused data_is)))
