use Rattle.std.proofs.Common.{ℕ, ◌≡◌, ◌+◌, ◌<◌, ◌≤◌, sym, ap, ◌∙◌, arith}
use Rattle.std.specs.Prelude.{min}
use Rattle.std.proofs.lemmas.Bool.Decides.{nat_tests}
use Rattle.keys_lines.proofs.Fields.{passed_pass}
use Rattle.keys_sums.proofs.parts.OpenPart.pass.Goals.{then-self-before, else-self-before}
use Rattle.keys_sums.proofs.parts.OpenPart.pass.Goals as goal

one_more : (n b : ℕ) → n ≤ b → n + 1 ≡ min (n + 1) (b + 1)
one_more n b le = grind (arith, nat_tests)

no_more : (n m b : ℕ) → n ≡ min m (b + 1) → b < n → n ≡ min (n + 1) (b + 1)
no_more n m b is past = grind (arith, nat_tests)

pub returns : goal.returns
returns g c = λ separator front is. record {
  collected = c.collected_after.ensures separator front is;
  counted = elim c.if-self-before.branch [
    | then-self-before w ↦ w.passed-is ∙ one_more c.args.self.passed c.args.before w.if-self-before.true
    | else-self-before w ↦ w.passed-is ∙ no_more c.args.self.passed _ c.args.before is.counted w.if-self-before.false
  ] ∙ ap (λ n. min (n + 1) (c.args.before + 1)) is.counted ∙ sym (passed_pass separator c.args.before front);
}
