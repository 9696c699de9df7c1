use Rattle.std.proofs.Common.{true, length, refl, sym, subst}
use Rattle.std.proofs.lemmas.Option.{slice_get_read}
use Rattle.sketch_base.specs.Seed.{seed_hash}
use Rattle.core_compact.specs.CompactState.{compact_value}
use Rattle.core_compact.proofs.Answered.{answer-value}
use Rattle.expression_evaluation.specs.Running.{AreOrderedSketches}
use Rattle.expression_evaluation.proofs.RunSteps.{ordered-more, answer_own, operand_run}
use Rattle.expression_evaluation.proofs.evaluation.run_step.Goals as goal

pub returns-in_ok-push-in-Operand-clause-ordered : goal.returns-in_ok-push-in-Operand-clause-ordered
returns-in_ok-push-in-Operand-clause-ordered g c =
    let f = g.F.SetFamily in
    let h = seed_hash c.args.seed in
    let same = c.in_ok-same-in-Operand.same in
    subst (λ xs. AreOrderedSketches (f.rules c.args.family.now) f.listed h xs) (sym c.in_ok-push-in-Operand.ensures.items)
    (ordered-more (f.rules c.args.family.now) f.listed h c.args.stack.now.items same c.requires.ordered (answer_own (f.rules c.args.family.now).key (compact_value (f.rules c.args.family.now).key (f.named c.in-Some.sketch.now)) h (f.listed same) c.in_ok-same-in-Operand.ensures.value))

pub returns-in_ok-push-in-Operand-clause-ran : goal.returns-in_ok-push-in-Operand-clause-ran
returns-in_ok-push-in-Operand-clause-ran g c =
    let f = g.F.SetFamily in
    let same = c.in_ok-same-in-Operand.same in
    let s = c.in-Some.sketch.now in
    let look = c.in-Some.ensures.lookup in
    operand_run (f.rules c.args.family.now) f.named f.listed c.args.lg_k c.args.sketches.now c.args.step c.in-Operand.index s same c.args.stack.now.items c.push.new.self.items c.in-Operand.is (slice_get_read c.args.sketches.now (length c.args.sketches.now) c.in-Operand.index s refl look.3.0 look.1) c.in_ok-push-in-Operand.ensures.items
    (answer-value (f.rules c.args.family.now).key (compact_value (f.rules c.args.family.now).key (f.named s)) (seed_hash c.args.seed) true (f.listed same) c.in_ok-same-in-Operand.ensures.value)
