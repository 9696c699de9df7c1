use Rattle.std.proofs.Common.{ℕ, List, length}
use Rattle.expression_text.specs.Reading.{HasOperand}
use Rattle.expression_text.specs.Tokens.{Lexeme}
use Rattle.expression_text.proofs.parsing.settle.Given as goal

-- the same tokens end with an operand
abbrev pub invariant-loop-operator : goal.invariant-loop-operator
invariant-loop-operator g l =
    (tokens : List Lexeme) (names : List (List ℕ)) (levels : ℕ) → HasOperand l.least tokens names l.initial.pending.items l.initial.steps.items levels → HasOperand l.least tokens names l.pending.items l.steps.items levels

abbrev pub decreases-loop-operator : goal.decreases-loop-operator
decreases-loop-operator g l = length l.pending.items
