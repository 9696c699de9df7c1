use Rattle.std.proofs.Common.{◌≤◌, [], map, length}
use Rattle.expression_text.specs.Reading.{IsReading, HasRead}
use Rattle.expression_text.proofs.parsing.Reading.put_all.Given as goal

-- the tokens so far were read, and the rest is a part of the text
abbrev pub invariant-loop-behind : goal.invariant-loop-behind
invariant-loop-behind g l = record {
  read : IsReading [] (map (λ v. v.items) l.fn.self.names.items) l.fn.self.pending.items l.fn.self.steps.items l.fn.self.levels l.fn.self.after_operand →
      HasRead l.text l.rest (map (λ v. v.items) l.self.names.items) l.self.pending.items l.self.steps.items l.self.levels l.self.after_operand;
  within : length l.rest ≤ length l.text;
}

abbrev pub decreases-loop-behind : goal.decreases-loop-behind
decreases-loop-behind g l = length l.rest
