use Rattle.std.proofs.Common.{ℕ, zero, suc, ◌≡◌, ◌∷◌, List, [], inl, inr, sym, subst, ◌∙◌, arith}
use Rattle.std.proofs.lemmas.Bool.Decides.{nat_tests}
use Rattle.keys_lines.specs.Keys.{key_of}
use Rattle.keys_lines.specs.Lines.{Lacks}
use Rattle.keys_lines.specs.declared.key.Key.TheVariants.{Field}
use Rattle.keys_lines.proofs.Fields.{key_put, key_skip, passed_put}
use Rattle.keys_sums.proofs.parts.OpenPart.put.Goals.{then-self-eq0, else-self-eq0}
use Rattle.keys_sums.proofs.parts.OpenPart.put.Goals as goal

lacks_one : (c b : ℕ) → (b ≡ c → ⊥) → Lacks c (b ∷ [])
lacks_one c b differs zero lt same = differs same
lacks_one c b differs (suc i) lt same = absurd (omega arith)

pub returns-then-self-before : goal.returns-then-self-before
returns-then-self-before g c = λ front is.
    let lacks = lacks_one c.args.separator c.args.byte c.if-byte-separator.false in record {
      collected = subst (λ (key : List ℕ). g.C.Collected.is_of key c.with.result) (sym (key_put c.args.separator c.args.before front (c.args.byte ∷ []) lacks (elim c.if-self-eq0.branch [
        | then-self-eq0 w ↦ inl (sym is.counted ∙ w.if-self-eq0.true)
        | else-self-eq0 w ↦ inr (grind (arith, nat_tests, w.value-is, c.if-self-before.true, is.counted))
      ]))) (c.with.ensures (key_of (Field c.args.before c.args.separator) front) is.collected);
      counted = is.counted ∙ sym (passed_put c.args.separator c.args.before front (c.args.byte ∷ []) lacks);
    }

pub returns-else-self-before : goal.returns-else-self-before
returns-else-self-before g c = λ front is.
    let lacks = lacks_one c.args.separator c.args.byte c.if-byte-separator.false in record {
      collected = subst (λ (key : List ℕ). g.C.Collected.is_of key c.args.self.collected) (sym (key_skip c.args.separator c.args.before front (c.args.byte ∷ []) lacks
          (λ e. elim c.if-self-eq0.branch [
            | then-self-eq0 w ↦ grind (arith, nat_tests, w.value-is, c.if-self-before.false)
            | else-self-eq0 w ↦ w.if-self-eq0.false (is.counted ∙ e)
          ])
          (λ e. elim c.if-self-eq0.branch [
            | then-self-eq0 w ↦ grind (arith, nat_tests, w.value-is, c.if-self-before.false)
            | else-self-eq0 w ↦ grind (arith, nat_tests, w.value-is, c.if-self-before.false, is.counted, e)
          ]))) is.collected;
      counted = is.counted ∙ sym (passed_put c.args.separator c.args.before front (c.args.byte ∷ []) lacks);
    }
