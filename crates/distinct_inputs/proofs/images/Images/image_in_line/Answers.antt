use Rattle.std.proofs.Common.{ℕ, ◌≡◌, List, [], Vec, Global, refl, sym, ap, ◌∙◌, rules}
use Rattle.std.specs.Prelude.{max}
use Rattle.distinct_inputs.specs.Images.{count_of}
use Rattle.distinct_inputs.proofs.ImageLines.{spelled, nothing_spelled, count_of_nothing}
use Rattle.distinct_inputs.proofs.images.Images.image_in_line.Goals as goal

pub returns-in-Some-clause-spelled : goal.returns-in-Some-clause-spelled
returns-in-Some-clause-spelled g c =
    spelled (λ (v : Vec ℕ Global). v.items) c.args.line.now c.trim_ascii.result.now c.in_ok-image.field-0 c.in-Some.image c.trim_ascii.ensures.value c.in_ok-image.ensures c.in-Some.is

pub returns-in-None-clause-spelled : goal.returns-in-None-clause-spelled
returns-in-None-clause-spelled g c =
    nothing_spelled (λ (v : Vec ℕ Global). v.items) c.args.line.now c.trim_ascii.result.now c.new.result.items c.in_ok-image.field-0 c.trim_ascii.ensures.value c.in_ok-image.ensures c.in-None.is c.new.ensures.items

pub returns-in-Some-clause-most : goal.returns-in-Some-clause-most
returns-in-Some-clause-most g c =
    c.note.ensures.most
    ∙ ap (λ (bytes : List ℕ). max c.args.self.now.most (count_of c.args.self.now.sums bytes)) (c.as_slice.ensures.value ∙ returns-in-Some-clause-spelled g c)

pub returns-in-None-clause-most : goal.returns-in-None-clause-most
returns-in-None-clause-most g c =
    let most = c.args.self.now.most in
    let none = nothing_spelled (λ (v : Vec ℕ Global). v.items) c.args.line.now c.trim_ascii.result.now [] c.in_ok-image.field-0 c.trim_ascii.ensures.value c.in_ok-image.ensures c.in-None.is refl in
    let least : max most 0 ≡ most = search rules in
    sym (ap (λ (bytes : List ℕ). max most (count_of c.args.self.now.sums bytes)) (sym none) ∙ ap (max most) (count_of_nothing c.args.self.now.sums) ∙ least)
