use Rattle.std.proofs.Common.{◌≡◌, map, length, ap, sym, ◌∙◌, arith}
use Rattle.std.proofs.lemmas.Bool.Decides.{nat_tests}
use Rattle.expression_text.proofs.Frames.{end_reading, some_unclosed, some_listed}
use Rattle.expression_text.proofs.parsing.Reading.finish.Goals as goal

pub returns-clause-spelled : goal.returns-clause-spelled
returns-clause-spelled g c = λ tokens text is reading.
    let s = c.args.self in
    let names = map (λ v. v.items) s.names.items in
    let empty : length c.as_slice.result.now ≡ 0 = grind (arith, nat_tests, c.if-not-is_empty.ensures) in
    let none : length c.settle.new.pending.items ≡ 0 = ap length (sym c.as_slice.ensures.value) ∙ empty in
    end_reading tokens names s.pending.items s.steps.items s.levels s.after_operand c.settle.new.pending.items c.settle.new.steps.items text c.if-not-self.false (c.in_ok-settle.ensures.settled tokens names s.levels) none is reading

pub returns-then-not-is_empty-clause-refused : goal.returns-then-not-is_empty-clause-refused
returns-then-not-is_empty-clause-refused g c = λ tokens reading other end.
    let s = c.args.self in
    let names = map (λ v. v.items) s.names.items in
    some_unclosed tokens names s.pending.items s.steps.items s.levels s.after_operand c.settle.new.pending.items c.settle.new.steps.items
    (c.in_ok-settle.ensures.settled tokens names s.levels) (λ none. some_listed c.as_slice.result.now c.settle.new.pending.items c.if-not-is_empty.ensures c.as_slice.ensures.value none) reading end.1 end.0
