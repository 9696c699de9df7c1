use Rattle.std.proofs.Common.{ℕ, ◌≤◌, Bool, List, Option, map, Some, Vec, Global, sym, ap, subst, ◌∙◌}
use Rattle.std.specs.Prelude.{IfSome}
use Rattle.std.specs.Option.{option_map}
use Rattle.keys_sketches.specs.Sources.{GivesNext}
use Rattle.distinct_inputs.specs.Images.{only_image, count_of, remaining_parts}
use Rattle.distinct_inputs.proofs.ImageLines.{next_mapped, count_of_only_image}
use Rattle.distinct_inputs.proofs.images.Images.next_image.Goals as goal

pub returns-in-Some-clause-next : goal.returns-in-Some-clause-next
returns-in-Some-clause-next g c =
    let old = remaining_parts g.S.Source.Read.remaining g.S.Sources.texts c.args.self.now in
    let new = remaining_parts g.S.Source.Read.remaining g.S.Sources.texts c.next_part.new.self in
    let sums = c.args.self.now.sums in
    subst (λ (b : Bool). GivesNext (λ (v : Vec ℕ Global). Some v.items) (option_map (map (only_image sums)) old) (option_map (map (only_image b)) new) (Some c.only_image.result)) (sym c.in_ok-part.ensures.sums)
    (next_mapped (only_image sums) old new (λ (v : Vec ℕ Global). v.items) c.in-Some.part c.only_image.result
    (subst (λ (o : Option (Vec ℕ Global)). GivesNext (λ (v : Vec ℕ Global). Some v.items) old new o) c.in-Some.is c.in_ok-part.ensures.next)
    (c.only_image.ensures.bytes ∙ ap (λ (b : Bool). only_image b c.in-Some.part.items) c.in_ok-part.ensures.sums))

pub returns-in-Some-clause-noted : goal.returns-in-Some-clause-noted
returns-in-Some-clause-noted g c =
    let sums = c.args.self.now.sums in
    let most = c.next_part.new.self.most in
    let few = subst (λ (o : Option (Vec ℕ Global)). IfSome o (λ v. count_of sums v.items ≤ most)) c.in-Some.is c.in_ok-part.ensures.noted in
    subst (λ (bytes : List ℕ). count_of sums bytes ≤ most) (sym c.only_image.ensures.bytes) (count_of_only_image sums c.next_part.new.self.sums c.in-Some.part.items most few)
