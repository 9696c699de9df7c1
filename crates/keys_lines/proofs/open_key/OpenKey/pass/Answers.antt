use Rattle.std.proofs.Common.{ℕ, ◌≡◌, ◌+◌, ◌<◌, ◌≤◌, sym, ap, ◌∙◌, arith}
use Rattle.std.specs.Prelude.{min}
use Rattle.std.proofs.lemmas.Bool.Decides.{nat_tests}
use Rattle.keys_lines.proofs.Fields.{passed_pass}
use Rattle.keys_lines.proofs.open_key.OpenKey.pass.Goals as goal

one_more : (n b : ℕ) → n ≤ b → n + 1 ≡ min (n + 1) (b + 1)
one_more n b le = grind (arith, nat_tests)

no_more : (n m b : ℕ) → n ≡ min m (b + 1) → b < n → n ≡ min (n + 1) (b + 1)
no_more n m b is past = grind (arith, nat_tests)

pub returns-then-self-before : goal.returns-then-self-before
returns-then-self-before c = λ front is.
    let same = c.forget.ensures.passed ∙ is.counted in record {
      hashed = c.forget.ensures.hashed front is;
      counted = one_more c.forget.new.self.passed c.args.before c.if-self-before.true ∙ ap (λ n. min (n + 1) (c.args.before + 1)) same ∙ sym (passed_pass c.args.separator c.args.before front);
    }

pub returns-else-self-before : goal.returns-else-self-before
returns-else-self-before c = λ front is.
    let same = c.forget.ensures.passed ∙ is.counted in record {
      hashed = c.forget.ensures.hashed front is;
      counted = no_more c.forget.new.self.passed _ c.args.before same c.if-self-before.false ∙ ap (λ n. min (n + 1) (c.args.before + 1)) same ∙ sym (passed_pass c.args.separator c.args.before front);
    }
