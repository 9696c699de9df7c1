use Rattle.std.proofs.Common.{ℕ, List, sym, subst, ◌∙◌}
use Rattle.sketch_base.specs.MurmurState.{HasWritten}
use Rattle.keys_lines.proofs.Fields.{key_reset, key_keep}
use Rattle.keys_lines.proofs.open_key.OpenKey.forget.Goals.{else-self-eq0-via-then-self-eq0+else-before-ne0, else-self-eq0-via-else-self-eq0}
use Rattle.keys_lines.proofs.open_key.OpenKey.forget.Goals as goal

pub returns-then-before-ne0-clause-hashed : goal.returns-then-before-ne0-clause-hashed
returns-then-before-ne0-clause-hashed c = λ front is.
    subst (λ (key : List ℕ). HasWritten c.args.seed key c.with_seed-self.result) (sym (key_reset c.args.separator c.args.before front (sym is.counted ∙ c.if-self-eq0.true) c.if-before-ne0.true)) c.with_seed-self.ensures

pub returns-else-self-eq0-clause-hashed : goal.returns-else-self-eq0-clause-hashed
returns-else-self-eq0-clause-hashed c = λ front is.
    subst (λ (key : List ℕ). HasWritten c.args.seed key c.args.self.now.hasher) (sym (key_keep c.args.separator c.args.before front (λ e. elim c.else-self-eq0.branch [
      | else-self-eq0-via-then-self-eq0+else-before-ne0 w ↦ w.if-before-ne0.false
      | else-self-eq0-via-else-self-eq0 w ↦ absurd (w.if-self-eq0.false (is.counted ∙ e))
    ]))) is.hashed
