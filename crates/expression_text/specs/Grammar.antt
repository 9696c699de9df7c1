-- Which expression tokens spell.
use Rattle.std.specs.Prelude.{ℕ, ◌≡◌, ◌<◌, ◌≤◌, ◌+◌, max, not, List, [], ◌∷◌, ◌++◌, length, get_or, filter}
use Rattle.std.specs.Str.{bytes_eq}
use Rattle.expression_text.specs.declared.operator.Operator.{Operator}
use Rattle.expression_text.specs.declared.operator.Operator.TheVariants.{Union, Intersection, Difference}
use Rattle.expression_text.specs.declared.operator.Step.{Step}
use Rattle.expression_text.specs.Expressions.{Expression, Named, Grouped, Combined, postfix, HasIndicesBelow}
use Rattle.expression_text.specs.Tokens.{Lexeme, name, sign, opening, closing, IsText}

-- the tokens of an expression over names
abbrev pub tokens_of : (names : List (List ℕ)) → Expression → List Lexeme
tokens_of names (Named i) = name (get_or names i []) ∷ []
tokens_of names (Grouped e) = opening ∷ (tokens_of names e ++ closing ∷ [])
tokens_of names (Combined op a b) = tokens_of names a ++ sign op ∷ tokens_of names b

-- words but one
abbrev pub without : (word : List ℕ) → List (List ℕ) → List (List ℕ)
without word words = filter (λ other. not (bytes_eq other word)) words

-- the names in tokens, each once, in the order of their first occurrences: a name, and then those of the tokens after it but this one
abbrev pub names_in : List Lexeme → List (List ℕ)
names_in [] = []
names_in (name word ∷ tokens) = word ∷ without word (names_in tokens)
names_in (sign op ∷ tokens) = names_in tokens
names_in (opening ∷ tokens) = names_in tokens
names_in (closing ∷ tokens) = names_in tokens

-- how tightly an operator binds
abbrev pub strength : Operator → ℕ
strength Union = 1
strength Intersection = 2
strength Difference = 1

-- how tightly an expression is bound together: a name and a group more than any operator
abbrev pub level : Expression → ℕ
level (Named i) = 3
level (Grouped e) = 3
level (Combined op a b) = strength op

-- the intersection binds tighter than the other operators, and operators that bind alike are combined from the left
abbrev pub IsBound : Expression → Type 0
IsBound (Named i) = Unit {0}
IsBound (Grouped e) = IsBound e
IsBound (Combined op a b) = (strength op ≤ level a) × (strength op < level b) × IsBound a × IsBound b

-- the most groups around one another
abbrev pub depth : Expression → ℕ
depth (Named i) = 0
depth (Grouped e) = depth e + 1
depth (Combined op a b) = max (depth a) (depth b)

-- the most levels of parentheses
abbrev pub most_levels : ℕ
most_levels = 64

-- a text spells this expression, of at most 64 levels, over names
pub record IsSpelled (text : List ℕ) (names : List (List ℕ)) (tree : Expression) : Type 0 where
  pub tokens : List Lexeme
  pub is_text : IsText tokens text
  pub are_tokens : tokens ≡ tokens_of names tree
  pub bound : IsBound tree
  pub deep : depth tree ≤ most_levels
  pub within : HasIndicesBelow (length names) tree

-- a text spells an expression with these steps over its names, each once, in the order in which it first has them
pub record IsExpressionText (text : List ℕ) (names : List (List ℕ)) (steps : List Step) : Type 0 where
  pub tree : Expression
  pub spelled : IsSpelled text names tree
  pub names_are : names ≡ names_in spelled.tokens
  pub steps_are : steps ≡ postfix tree

-- a text spells no expression, over any names
abbrev pub SpellsNothing : (text : List ℕ) → Type 0
SpellsNothing text = (names : List (List ℕ)) (tree : Expression) → IsSpelled text names tree → ⊥
