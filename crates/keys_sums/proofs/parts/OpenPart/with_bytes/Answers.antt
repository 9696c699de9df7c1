use Rattle.std.proofs.Common.{ℕ, List, [], ◌∷◌, ◌++◌, refl, sym, ap, subst, ◌∙◌, append-nil, append_assoc}
use Rattle.keys_sums.specs.Parts.{IsOpenPart}
use Rattle.keys_sums.proofs.parts.OpenPart.with_bytes.Goals as goal

pub loop-byte-init : goal.loop-byte-init
loop-byte-init g c = ([], refl, λ front is. subst (λ (bs : List ℕ). IsOpenPart g.C.Collected.is_of c.args.key bs c.args.self) (sym (append-nil front)) is)

pub loop-byte-preserved : goal.loop-byte-preserved
loop-byte-preserved g c =
    let inv = c.loop-byte.invariant in
    let byte = c.in-Some.byte.now in (
      inv.0 ++ byte ∷ [],
      inv.1 ∙ ap (λ bs. inv.0 ++ bs) (c.in-Some.ensures.cases.0) ∙ sym (append_assoc inv.0 (byte ∷ []) c.in-Some.others.now),
      λ front is. subst (λ (bs : List ℕ). IsOpenPart g.C.Collected.is_of c.args.key bs c.with-state.result) (append_assoc front inv.0 (byte ∷ [])) (c.with-state.ensures (front ++ inv.0) (inv.2 front is)),
    )
