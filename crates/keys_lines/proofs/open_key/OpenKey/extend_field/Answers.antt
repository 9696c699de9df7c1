use Rattle.std.proofs.Common.{ℕ, List, [], ◌∷◌, ◌++◌, refl, sym, ap, subst, ◌∙◌, append-nil, append_assoc}
use Rattle.keys_lines.specs.Open.{IsOpenKey}
use Rattle.keys_lines.specs.declared.key.Key.TheVariants.{Field}
use Rattle.keys_lines.proofs.open_key.OpenKey.extend_field.Goals as goal

pub loop-piece-init : goal.loop-piece-init
loop-piece-init c = ([], refl, λ front is. subst (λ (bs : List ℕ). IsOpenKey c.args.seed (Field c.args.before c.args.separator) bs c.args.self.now) (sym (append-nil front)) is)

pub loop-piece-preserved : goal.loop-piece-preserved
loop-piece-preserved c =
    let inv = c.loop-piece.invariant in
    let line = c.in-Some.piece.now in
    let ended = line ++ c.args.separator ∷ [] in (
      inv.0 ++ ended,
      inv.1 ∙ ap (λ bs. inv.0 ++ bs) (c.in-Some.ensures.parts ∙ sym (append_assoc line (c.args.separator ∷ []) c.in-Some.others.now)) ∙ sym (append_assoc inv.0 ended c.in-Some.others.now),
      λ front is. subst (λ (bs : List ℕ). IsOpenKey c.args.seed (Field c.args.before c.args.separator) bs c.pass.new.self)
          (append_assoc (front ++ inv.0) line (c.args.separator ∷ []) ∙ append_assoc front inv.0 ended)
          (c.pass.ensures ((front ++ inv.0) ++ line) (c.put.ensures c.args.seed (front ++ inv.0) (inv.2 front is))),
    )

pub returns : goal.returns
returns c = λ front is.
    let inv = c.loop-piece.invariant in
    subst (λ (bs : List ℕ). IsOpenKey c.args.seed (Field c.args.before c.args.separator) bs c.put-2.new.self)
    (append_assoc front inv.0 c.loop-piece.rest.now ∙ ap (λ bs. front ++ bs) (sym inv.1)) (c.put-2.ensures c.args.seed (front ++ inv.0) (inv.2 front is))
