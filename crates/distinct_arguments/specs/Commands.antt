-- The words of commands.
use Rattle.std.specs.Prelude.{ℕ, List, codes, Option, Some, None, if◌then◌else◌}
use Rattle.std.specs.Str.{bytes_eq}
use Rattle.distinct_arguments.specs.declared.commands.Command.{Command}
use Rattle.distinct_arguments.specs.declared.commands.Command.TheVariants.{Count, Sketch, Combine, Show, Eval}
use Rattle.distinct_arguments.specs.declared.commands.Command.TheVariants.{Visits, Sum, Similarity, Matrix}
use Rattle.distinct_arguments.specs.declared.commands.Operator.TheVariants.{Union, Meet, Minus}

-- the command that a word names
abbrev pub command_of : List ℕ → Option Command
command_of word =
    if bytes_eq word (codes "count") then Some Count else
    if bytes_eq word (codes "sketch") then Some Sketch else
    if bytes_eq word (codes "union") then Some (Combine Union) else
    if bytes_eq word (codes "meet") then Some (Combine Meet) else
    if bytes_eq word (codes "minus") then Some (Combine Minus) else
    if bytes_eq word (codes "show") then Some Show else
    if bytes_eq word (codes "eval") then Some Eval else
    if bytes_eq word (codes "visits") then Some Visits else
    if bytes_eq word (codes "sum") then Some Sum else
    if bytes_eq word (codes "similarity") then Some Similarity else
    if bytes_eq word (codes "matrix") then Some Matrix else None

-- the word of a command
abbrev pub word_of : Command → List ℕ
word_of Count = codes "count"
word_of Sketch = codes "sketch"
word_of (Combine Union) = codes "union"
word_of (Combine Meet) = codes "meet"
word_of (Combine Minus) = codes "minus"
word_of Show = codes "show"
word_of Eval = codes "eval"
word_of Visits = codes "visits"
word_of Sum = codes "sum"
word_of Similarity = codes "similarity"
word_of Matrix = codes "matrix"
