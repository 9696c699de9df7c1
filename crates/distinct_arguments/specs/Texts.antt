-- The texts of `--help` and `--version`.
use Rattle.std.specs.Prelude.{ℕ, ◌≡◌, ◌++◌, ◌==◌, ◌&&◌, ◌||◌, not, Bool, true, false, List, [], ◌∷◌, length, codes, if◌then◌else◌}
use Rattle.std.specs.Option.{option_map_or}
use Rattle.std.specs.List.{list_all}
use Rattle.distinct_arguments.specs.Commands.{word_of}
use Rattle.distinct_arguments.specs.Table.{Row, rows, is_among}
use Rattle.distinct_arguments.specs.declared.commands.Command.{Command}
use Rattle.distinct_arguments.specs.declared.commands.Topic.{Topic}
use Rattle.distinct_arguments.specs.declared.commands.Topic.TheVariants.{Program, Version, Help}
use Rattle.distinct_arguments.specs.declared.commands.Command.TheVariants.{Count, Sketch, Combine, Show, Eval}
use Rattle.distinct_arguments.specs.declared.commands.Command.TheVariants.{Visits, Sum, Similarity, Matrix}
use Rattle.distinct_arguments.specs.declared.commands.Operator.TheVariants.{Union, Meet, Minus}
use Rattle.distinct_arguments.specs.declared.help.TheConstants.{VERSION, HELP, COUNT, SKETCH, UNION, MEET, MINUS}
use Rattle.distinct_arguments.specs.declared.help.TheConstants.{SHOW, EVAL, VISITS, SUM, SIMILARITY, MATRIX}

-- the bytes of the text on a topic: exactly those of its constant
abbrev pub text_of : Topic → List ℕ
text_of Program = HELP.now
text_of Version = VERSION.now
text_of (Help Count) = COUNT.now
text_of (Help Sketch) = SKETCH.now
text_of (Help (Combine Union)) = UNION.now
text_of (Help (Combine Meet)) = MEET.now
text_of (Help (Combine Minus)) = MINUS.now
text_of (Help Show) = SHOW.now
text_of (Help Eval) = EVAL.now
text_of (Help Visits) = VISITS.now
text_of (Help Sum) = SUM.now
text_of (Help Similarity) = SIMILARITY.now
text_of (Help Matrix) = MATRIX.now

-- how the line of an option begins in a help: with its names, each in its column
abbrev pub line_of : Row → List ℕ
line_of row =
    option_map_or (λ short. codes "\n  " ++ (short ++ (codes ", " ++ row.name))) row.short
    (if length row.name == 2 then codes "\n  " ++ row.name else codes "\n      " ++ row.name)

-- whether a text begins with such names; behind them is a blank (32), `=` (61) or `[` (91)
abbrev pub begins_with : (names text : List ℕ) → Bool
begins_with [] [] = false
begins_with [] (byte ∷ text) = byte == 32 || byte == 61 || byte == 91
begins_with (first ∷ names) [] = false
begins_with (first ∷ names) (byte ∷ text) = first == byte && begins_with names text

-- whether a text has them
abbrev pub has_line : (names text : List ℕ) → Bool
has_line names [] = false
has_line names (byte ∷ text) = begins_with names (byte ∷ text) || has_line names text

-- whether the help of a command lists an option exactly if the command has it
abbrev pub lists_rightly : Command → Row → Bool
lists_rightly command row =
    let listed = has_line (line_of row) (text_of (Help command)) in
    if is_among (word_of command) row.commands then listed else not listed

-- the help of a command lists its options, and no others
abbrev pub ListsOptions : Command → Type 0
ListsOptions command = list_all (lists_rightly command) rows ≡ true
