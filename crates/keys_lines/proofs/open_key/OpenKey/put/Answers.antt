use Rattle.std.proofs.Common.{ℕ, List, inl, inr, sym, subst, ◌∙◌}
use Rattle.sketch_base.specs.MurmurState.{HasWritten}
use Rattle.keys_lines.specs.Keys.{key_of}
use Rattle.keys_lines.specs.declared.key.Key.TheVariants.{Field}
use Rattle.keys_lines.proofs.Fields.{key_put, key_skip, passed_put}
use Rattle.keys_lines.proofs.open_key.OpenKey.put.Goals.{then-self-eq0-via-then-self-eq0, then-self-eq0-via-else-self-eq0+then-self-before}
use Rattle.keys_lines.proofs.open_key.OpenKey.put.Goals as goal

pub returns-then-self-eq0 : goal.returns-then-self-eq0
returns-then-self-eq0 c = λ seed front is. record {
  hashed = subst (λ (key : List ℕ). HasWritten seed key c.write.new.self) (sym (key_put c.args.separator c.args.before front c.args.piece.now c.requires (elim c.then-self-eq0.branch [
    | then-self-eq0-via-then-self-eq0 w ↦ inl (sym is.counted ∙ w.if-self-eq0.true)
    | then-self-eq0-via-else-self-eq0+then-self-before w ↦ inr (sym is.counted ∙ w.if-self-before.true)
  ]))) (c.write.ensures.written seed (key_of (Field c.args.before c.args.separator) front) is.hashed);
  counted = is.counted ∙ sym (passed_put c.args.separator c.args.before front c.args.piece.now c.requires);
}

pub returns-else-self-before : goal.returns-else-self-before
returns-else-self-before c = λ seed front is. record {
  hashed = subst (λ (key : List ℕ). HasWritten seed key c.args.self.now.hasher)
      (sym (key_skip c.args.separator c.args.before front c.args.piece.now c.requires (λ e. c.if-self-eq0.false (is.counted ∙ e)) (λ e. c.if-self-before.false (is.counted ∙ e)))) is.hashed;
  counted = is.counted ∙ sym (passed_put c.args.separator c.args.before front c.args.piece.now c.requires);
}
