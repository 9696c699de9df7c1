use Rattle.std.proofs.Common.{[], ◌∷◌, ◌++◌, sym, subst}
use Rattle.keys_lines.specs.declared.key.Key.{Key}
use Rattle.keys_sums.specs.Parts.{IsOpenPart}
use Rattle.keys_sums.proofs.parts.OpenPart.with.Goals as goal

pub returns-in-Line : goal.returns-in-Line
returns-in-Line g c = λ front is.
    let whole = subst (λ (key : Key). IsOpenPart g.C.Collected.is_of key front c.args.self) c.in-Line.is is in
    subst (λ (key : Key). IsOpenPart g.C.Collected.is_of key (front ++ c.args.byte ∷ []) (record { collected = c.with.result; passed = c.args.self.passed })) (sym c.in-Line.is)
    (record { collected = c.with.ensures front whole.collected; counted = whole.counted })
