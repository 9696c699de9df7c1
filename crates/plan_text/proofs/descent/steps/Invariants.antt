use Rattle.std.proofs.Common.{◌≡◌, ◌-◌}
use Rattle.plan_text.specs.Reading.{says, many, step_at}
use Rattle.plan_text.proofs.grammar.ReadMany.{with_front}
use Rattle.plan_text.proofs.descent.steps.Given as goal

abbrev pub invariant-loop : goal.invariant-loop
invariant-loop g l = with_front l.steps.items (many (step_at g.V.StepValue.as_value) (l.count - l.counter) (says l.rest)) ≡ many (step_at g.V.StepValue.as_value) l.count (says l.text)
