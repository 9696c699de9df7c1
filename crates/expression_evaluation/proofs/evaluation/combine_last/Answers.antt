use Rattle.sketch_base.specs.Seed.{seed_hash}
use Rattle.core_compact.specs.CompactState.{compact_value}
use Rattle.core_compact.proofs.Answered.{answer-value}
use Rattle.std.proofs.Common.{true, inl, inr}
use Rattle.std.proofs.lemmas.Result.{err_from_is_err_and}
use Rattle.expression_evaluation.specs.Values.{applied}
use Rattle.expression_evaluation.proofs.RunSteps.{combined_last, refused_last}
use Rattle.expression_evaluation.proofs.evaluation.combine_last.Goals as goal

pub returns-clause-ran : goal.returns-clause-ran
returns-clause-ran g c =
    let f = g.F.SetFamily in
    let first = c.in-Some-pop.first in
    let second = c.in-Some.second in
    let sketch = c.in_ok-sketch.sketch in
    combined_last (f.rules c.args.family.now) f.listed c.args.lg_k c.args.operator c.args.stack.now.items c.pop.new.self.items c.pop-2.new.self.items c.push.new.self.items first second sketch c.in-Some.ensures.items c.in-Some-pop.ensures.items c.in_ok-push.ensures.items
    (answer-value (f.rules c.args.family.now).key (applied (f.rules c.args.family.now) c.args.lg_k c.args.operator (compact_value (f.rules c.args.family.now).key (f.listed first)) (compact_value (f.rules c.args.family.now).key (f.listed second))) (seed_hash c.args.seed) true (f.listed sketch) c.in_ok-sketch.ensures.value)

pub returns-in_err-sketch-clause-refused : goal.returns-in_err-sketch-clause-refused
returns-in_err-sketch-clause-refused g c =
    let f = g.F.SetFamily in
    let p = err_from_is_err_and c.from_residual.result c.from_residual.ensures.1 in
    let first = c.in-Some-pop.first in
    let second = c.in-Some.second in
    rw (p.1, p.2) (elim c.in_err-sketch.ensures.refused [
      | inl memory ↦ inl memory
      | inr policy ↦ inr (inr (policy.0, refused_last (f.rules c.args.family.now) f.listed c.args.operator c.args.stack.now.items c.pop.new.self.items c.pop-2.new.self.items first second c.in-Some.ensures.items c.in-Some-pop.ensures.items policy.1))
    ])
