use Rattle.std.proofs.Common.{◌≡◌, refl, sym, ap, inl, inr, ◌∙◌}
use Rattle.c_objects.proofs.Begun.{text_given, same_given}
use Rattle.c_objects.proofs.texts.end_text.Goals as goal

pub returns-in-Ok : goal.returns-in-Ok
returns-in-Ok c =
    let e = c.in-Ok.ensures in let old = c.args.theta.now.sketch in let new = c.end.new.sketch in
    let same : c.args.text.now.hashing.seed ≡ c.args.theta.now.seed = ap (λ h. h.seed) (sym c.hashing.ensures) ∙ c.if-hashing-theta.false in
    inr (same, refl, inl (refl, e.again, e.inserted, text_given old new c.args.text.now c.end.new.self e.again e.inserted))

pub returns-in-Err : goal.returns-in-Err
returns-in-Err c =
    let e = c.in-Err.ensures in let old = c.args.theta.now.sketch in let new = c.end.new.sketch in
    let same : c.args.text.now.hashing.seed ≡ c.args.theta.now.seed = ap (λ h. h.seed) (sym c.hashing.ensures) ∙ c.if-hashing-theta.false in
    inr (same, refl, inr (refl, e.err, e.same, same_given old new e.same))
