use Rattle.std.proofs.Common.{map}
use Rattle.expression_text.proofs.Frames.{name_reading}
use Rattle.expression_text.proofs.parsing.Reading.put_name.Goals as goal

pub returns-clause-reads : goal.returns-clause-reads
returns-clause-reads g c = λ tokens reading.
    let s = c.args.self.now in
    name_reading tokens (map (λ v. v.items) s.names.items) s.pending.items s.steps.items s.levels s.after_operand (map (λ v. v.items) c.index_of.new.names.items) c.args.word.now c.in_ok-index.index c.push.new.self.items c.if-self.false
    c.in_ok-index.ensures.index c.in_ok-push.ensures.items reading
