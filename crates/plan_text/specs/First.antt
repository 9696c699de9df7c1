-- The fault of a text is the first one, measured by commands with any number of levels.
use Rattle.std.specs.Prelude.{◌≡◌, ◌↔◌, ℕ, suc, ◌≤◌, ◌<◌, List, [], ◌∷◌, ◌++◌, length, Option, Some, None}
use Rattle.std.specs.declared.alloc.Global.{Global}
use Rattle.plan_text.specs.declared.line.Line.{Line}
use Rattle.plan_text.specs.declared.command.Command.{Command}
use Rattle.plan_text.specs.Reading.{Said, Stop, syntax, limit}
use Rattle.plan_text.specs.Spelling.{Say, Spells, command_levels}
use Rattle.plan_text.specs.Faults.{a_command, fault_at, fault_of}

-- these lines are those of a command with any number of levels
abbrev pub IsSpelled : Said → Type 0
IsSpelled lines = (command : Command Global) × Say lines command

-- the number of lines left where reading stops, including the line at fault
abbrev pub left_at : Stop → ℕ
left_at (syntax left) = left
left_at (limit left) = left

-- the fault of these lines is this one
abbrev pub HasStop : Said → Stop → Type 0
HasStop lines fault = fault_at 64 lines (a_command ∷ []) ≡ Some fault

-- no command begins with the lines up to a syntax fault
abbrev pub NothingBegins : Type 0
NothingBegins = (front : Said) (faulty : Option Line) (rest more : Said)
    → HasStop (front ++ faulty ∷ rest) (syntax (suc (length rest))) → IsSpelled (front ++ faulty ∷ more) → ⊥

-- the lines before a fault begin a command
abbrev pub FrontBegins : Type 0
FrontBegins = (front rest : Said) (fault : Stop) → left_at fault ≤ length rest → HasStop (front ++ rest) fault
    → (more : Said) × IsSpelled (front ++ more)

-- the lines up to a node of one level too many begin a command
abbrev pub DeepBegins : Type 0
DeepBegins = (front : Said) (deep : Option Line) (rest : Said) → HasStop (front ++ deep ∷ rest) (limit (suc (length rest)))
    → (more : Said) × IsSpelled (front ++ deep ∷ more)

-- every command that begins with the lines up to a node of one level too many has more than 64 levels
abbrev pub DeepIsDeep : Type 0
DeepIsDeep = (front : Said) (deep : Option Line) (rest more : Said) (command : Command Global)
    → HasStop (front ++ deep ∷ rest) (limit (suc (length rest))) → Say (front ++ deep ∷ more) command → 64 < command_levels command

-- the lines before a fault have none, whatever follows them
abbrev pub FrontIsFaultless : Type 0
FrontIsFaultless = (front rest more : Said) (fault other : Stop) → left_at fault ≤ length rest → HasStop (front ++ rest) fault
    → HasStop (front ++ more) other → left_at other ≤ length more

-- a text spells at most one command
abbrev pub SpellsOne : Type 0
SpellsOne = (text : List ℕ) (first second : Command Global) → Spells text first → Spells text second → first ≡ second

-- lines after which one is missing spell no command, but begin one
abbrev pub MissingBegins : Type 0
MissingBegins = (lines : Said) → HasStop lines (syntax 0)
    → (IsSpelled lines → ⊥) × ((more : Said) × IsSpelled (lines ++ more))

-- a text has no fault exactly if it spells a command
abbrev pub FaultlessIsSpelled : Type 0
FaultlessIsSpelled = (text : List ℕ) → (fault_of text ≡ None) ↔ ((command : Command Global) × Spells text command)
