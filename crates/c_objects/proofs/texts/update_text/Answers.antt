use Rattle.std.proofs.Common.{◌≡◌, refl, sym, ap, inl, inr, ◌∙◌}
use Rattle.c_objects.proofs.Begun.{piece_given, first_given}
use Rattle.c_objects.proofs.texts.update_text.Goals as goal

pub returns-in-Ok : goal.returns-in-Ok
returns-in-Ok c =
    let e = c.in-Ok.ensures in let old = c.args.theta.now.sketch in let new = c.add.new.sketch in
    let same : c.args.text.now.hashing.seed ≡ c.args.theta.now.seed = ap (λ h. h.seed) (sym c.hashing.ensures) ∙ c.if-hashing-theta.false in
    inr (same, refl, e.hashing, inl (refl, e.inserted, piece_given c.args.piece.now old new c.args.text.now c.add.new.self e.hashing e.inserted))

pub returns-in-Err : goal.returns-in-Err
returns-in-Err c =
    let e = c.in-Err.ensures in let old = c.args.theta.now.sketch in let new = c.add.new.sketch in
    let same : c.args.text.now.hashing.seed ≡ c.args.theta.now.seed = ap (λ h. h.seed) (sym c.hashing.ensures) ∙ c.if-hashing-theta.false in
    inr (same, refl, e.hashing, inr (refl, e.err, e.stopped, first_given c.args.piece.now old new c.args.text.now e.stopped))
