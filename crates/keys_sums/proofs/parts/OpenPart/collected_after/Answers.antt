use Rattle.std.proofs.Common.{ℕ, List, ◌∙◌, sym, subst}
use Rattle.keys_lines.proofs.Fields.{key_reset, key_keep}
use Rattle.keys_sums.proofs.parts.OpenPart.collected_after.Goals.{else-self-eq0-via-then-self-eq0+else-before-ne0, else-self-eq0-via-else-self-eq0}
use Rattle.keys_sums.proofs.parts.OpenPart.collected_after.Goals as goal

pub returns-then-before-ne0 : goal.returns-then-before-ne0
returns-then-before-ne0 g c = λ separator front is.
    subst (λ (key : List ℕ). g.C.Collected.is_of key c.nothing.result) (sym (key_reset separator c.args.before front (sym is.counted ∙ c.if-self-eq0.true) c.if-before-ne0.true)) c.nothing.ensures

pub returns-else-self-eq0 : goal.returns-else-self-eq0
returns-else-self-eq0 g c = λ separator front is.
    subst (λ (key : List ℕ). g.C.Collected.is_of key c.args.self.collected) (sym (key_keep separator c.args.before front (λ e. elim c.else-self-eq0.branch [
      | else-self-eq0-via-then-self-eq0+else-before-ne0 w ↦ w.if-before-ne0.false
      | else-self-eq0-via-else-self-eq0 w ↦ absurd (w.if-self-eq0.false (is.counted ∙ e))
    ]))) is.collected
