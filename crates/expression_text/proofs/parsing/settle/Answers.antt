use Rattle.std.proofs.Common.{sym, subst}
use Rattle.expression_text.specs.Reading.{HasOperand}
use Rattle.expression_text.proofs.Frames.{sign_combined}
use Rattle.expression_text.proofs.parsing.settle.Goals as goal

pub loop-operator-preserved : goal.loop-operator-preserved
loop-operator-preserved g c = λ tokens names levels has.
    subst (λ ss. HasOperand c.args.least tokens names c.take_sign.new.pending.items ss levels) (sym c.in_ok-push.ensures.items)
    (sign_combined tokens names c.loop-operator.pending.items c.loop-operator.steps.items levels c.args.least c.take_sign.new.pending.items c.in-Some.operator (c.loop-operator.invariant tokens names levels has) c.in-Some.ensures.0 c.in-Some.ensures.1)
