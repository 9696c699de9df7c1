-- What a command is given: names of files, or an expression over them.
use Rattle.std.specs.Prelude.{ℕ, ◌≡◌, ◌≢◌, ⊤, List, [], ◌∷◌}
use Rattle.expression_text.specs.Grammar.{IsExpressionText}
use Rattle.distinct_arguments.specs.Arguments.{Action, prints, runs, fails}
use Rattle.distinct_arguments.specs.declared.commands.Command.{Command}
use Rattle.distinct_arguments.specs.declared.commands.Command.TheVariants.{Eval}
use Rattle.distinct_inputs.specs.Lists.{names_of}
use Rattle.distinct_commands.specs.declared.expression.Expression.{Expression}
use Rattle.distinct_commands.specs.declared.expression.Operands.{Operands}
use Rattle.distinct_commands.specs.declared.expression.Operands.TheVariants as operands

-- an expression is the one that its text spells, over its names
abbrev pub IsRead : Expression → Type 0
IsRead e = IsExpressionText e.text.now (names_of e.names.items) e.steps.items

-- the words that a command is given: the names of its files, or the text of its expression
abbrev pub words_in : Operands → List (List ℕ)
words_in (operands.Files names) = names_of names.now
words_in (operands.Expression e) = e.now.text.now ∷ []

-- the names of the files that a command reads
abbrev pub files_of : Operands → List (List ℕ)
files_of (operands.Files names) = names_of names.now
files_of (operands.Expression e) = names_of e.now.names.items

-- the words that arguments have for a command
abbrev pub words_for : Action → List (List ℕ)
words_for (prints topic) = []
words_for (runs command options words) = words
words_for (fails mistake) = []

-- `eval` is given an expression, and any other command names
abbrev pub Suits : Command → Operands → Type 0
Suits command (operands.Files names) = command ≢ Eval
Suits command (operands.Expression e) = (command ≡ Eval) × IsRead e.now

-- .. and the text of the expression is the only word that the arguments have for it
abbrev pub SuitsAction : Action → Operands → Type 0
SuitsAction (prints topic) given = ⊤
SuitsAction (runs command options words) (operands.Files names) = command ≢ Eval
SuitsAction (runs command options words) (operands.Expression e) = (command ≡ Eval) × IsRead e.now × (words ≡ e.now.text.now ∷ [])
SuitsAction (fails mistake) given = ⊤
