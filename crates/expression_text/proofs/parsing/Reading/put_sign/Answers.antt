use Rattle.std.proofs.Common.{map}
use Rattle.expression_text.proofs.Frames.{sign_reading}
use Rattle.expression_text.proofs.parsing.Reading.put_sign.Goals as goal

pub returns-clause-reads : goal.returns-clause-reads
returns-clause-reads g c = λ tokens reading.
    let s = c.args.self.now in
    let names = map (λ v. v.items) s.names.items in
    sign_reading tokens names s.pending.items s.steps.items s.levels s.after_operand c.args.operator c.strength.result c.settle.new.pending.items c.push.new.self.items c.settle.new.steps.items c.if-not-self.false c.strength.ensures
    (c.in_ok-settle.ensures.settled tokens names s.levels) c.in_ok-push.ensures.items reading
