use Rattle.std.proofs.Common.{map, ◌<◌, arith}
use Rattle.std.proofs.lemmas.Bool.Decides.{nat_tests}
use Rattle.expression_text.proofs.Frames.{opening_reading}
use Rattle.expression_text.proofs.parsing.Reading.open.Goals as goal

pub returns-clause-reads : goal.returns-clause-reads
returns-clause-reads g c = λ tokens reading.
    let s = c.args.self.now in
    let limited : s.levels < 64 = grind (arith, nat_tests) in
    opening_reading tokens (map (λ v. v.items) s.names.items) s.pending.items s.steps.items s.levels s.after_operand c.push.new.self.items c.if-self.false limited c.in_ok-push.ensures.items reading
