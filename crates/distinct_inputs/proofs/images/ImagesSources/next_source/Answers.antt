use Rattle.std.proofs.Common.{ℕ, Option, Some, Vec, Global, refl, subst}
use Rattle.keys_sketches.specs.Sources.{GivesNext}
use Rattle.distinct_inputs.specs.Images.{remaining_images}
use Rattle.distinct_inputs.proofs.ImageLines.{same_first}
use Rattle.distinct_inputs.proofs.images.ImagesSources.next_source.Goals as goal

pub returns-in-Some : goal.returns-in-Some
returns-in-Some g c =
    let old = remaining_images g.S.Source.Read.remaining g.S.Sources.texts c.args.self.now in
    let new = remaining_images g.S.Source.Read.remaining g.S.Sources.texts c.next_image.new.self in
    same_first (λ (v : Vec ℕ Global). Some v.items) _ old new c.in-Some.image c.new.result (rw (c.new.ensures.inner, c.new.ensures.position) refl)
    (subst (λ (o : Option (Vec ℕ Global)). GivesNext (λ v. Some v.items) old new o) c.in-Some.is c.in_ok-image.ensures.next)
