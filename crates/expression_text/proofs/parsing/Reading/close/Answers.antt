use Rattle.std.proofs.Common.{◌≡◌, ◌+◌, ◌-◌, map, arith}
use Rattle.std.proofs.lemmas.Bool.Decides.{nat_tests}
use Rattle.expression_text.proofs.Frames.{closing_reading, none_closed}
use Rattle.expression_text.proofs.parsing.Reading.close.Goals as goal

pub returns-clause-reads : goal.returns-clause-reads
returns-clause-reads g c = λ tokens reading.
    let s = c.args.self.now in
    let names = map (λ v. v.items) s.names.items in
    let some : s.levels ≡ s.levels - 1 + 1 = grind (arith, nat_tests) in
    closing_reading tokens names s.pending.items s.steps.items s.levels s.after_operand c.settle.new.pending.items c.pop.new.self.items c.in-Some.field-0 c.settle.new.steps.items (s.levels - 1) c.if-not-self.false some
    (c.in_ok-settle.ensures.settled tokens names s.levels) c.in-Some.ensures.items reading

pub returns-in_default-clause-refused : goal.returns-in_default-clause-refused
returns-in_default-clause-refused g c = λ tokens reading other follow.
    let s = c.args.self.now in
    let names = map (λ v. v.items) s.names.items in
    none_closed tokens names s.pending.items s.steps.items s.levels s.after_operand c.settle.new.pending.items c.settle.new.steps.items
    (c.in_ok-settle.ensures.settled tokens names s.levels) (omega (arith, c.settle.new.pending.ok.0, c.in_default.ensures.cases.0)) reading follow.0 follow.1
