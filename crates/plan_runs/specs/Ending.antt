-- How a run ends.
use Rattle.std.specs.Prelude.{◌≡◌, ℕ, List, Option}
use Rattle.std.specs.Io.KnownBytes.{Appends}
use Rattle.plan_runs.specs.declared.runs.Ending.{Ending}
use Rattle.plan_runs.specs.declared.runs.Ending.TheVariants.{Answered, NotRead, NotWritten}
use Rattle.plan_runs.specs.Answer.{Answers}

-- the exit status: the answer's, or 2 if a read or a write failed
abbrev pub ending_status : Ending → ℕ
ending_status (Answered status) = status
ending_status NotRead = 2
ending_status NotWritten = 2

-- the text was written whole with this status, or a write failed
abbrev pub Puts : List ℕ → ℕ → Ending → Option (List ℕ) → Option (List ℕ) → Type 0
Puts text status (Answered s) old new = (s ≡ status) × Appends old new text
Puts text status NotRead old new = ⊥
Puts text status NotWritten old new = Unit {0}

-- a run on an input: it wrote a text that answers the input with the status, and nothing else, unless a read or a write
-- failed
abbrev pub EndsRun : Type 0 → List ℕ → Ending → Option (List ℕ) → Option (List ℕ) → Type 0
EndsRun Z input (Answered status) old new = (text : List ℕ) × Answers Z input status text × Appends old new text
EndsRun Z input NotRead old new = Unit {0}
EndsRun Z input NotWritten old new = Unit {0}
