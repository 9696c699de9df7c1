-- Expressions of sets, and their steps.
use Rattle.std.specs.Prelude.{ℕ, ◌<◌, List, [], ◌∷◌, ◌++◌}
use Rattle.expression_text.specs.declared.operator.Operator.{Operator}
use Rattle.expression_text.specs.declared.operator.Step.{Step}
use Rattle.expression_text.specs.declared.operator.Step.TheVariants.{Operand, Combine}

-- an expression: the name of an index, an expression in parentheses, or two expressions combined
pub data Expression : Type 0 where
  Named : ℕ → Expression
  Grouped : Expression → Expression
  Combined : Operator → Expression → Expression → Expression

-- the steps of an expression, in postfix order
abbrev pub postfix : Expression → List Step
postfix (Named i) = Operand i ∷ []
postfix (Grouped e) = postfix e
postfix (Combined op a b) = postfix a ++ (postfix b ++ Combine op ∷ [])

-- each index of an expression is below n
abbrev pub HasIndicesBelow : (n : ℕ) → Expression → Type 0
HasIndicesBelow n (Named i) = i < n
HasIndicesBelow n (Grouped e) = HasIndicesBelow n e
HasIndicesBelow n (Combined op a b) = HasIndicesBelow n a × HasIndicesBelow n b
