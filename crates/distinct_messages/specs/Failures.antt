-- Failures, their statuses and the names in their messages.
use Rattle.std.specs.Prelude.{ℕ, ◌≡◌, ⊤, Bool, true, false, List, [], ◌∷◌, codes, string_bytes, if◌then◌else◌}
use Rattle.std.specs.Str.{bytes_eq}
use Rattle.std.specs.declared.io.Error.{Error}
use Rattle.std.specs.IoError.{error_kind}
use Rattle.std.specs.declared.io.ErrorKind.TheVariants.{BrokenPipe, OutOfMemory}
use Rattle.distinct_arguments.specs.Faults.{fault_status}
use Rattle.distinct_messages.specs.declared.failure.Failure.{Failure}
use Rattle.distinct_messages.specs.declared.failure.Failure.TheVariants.{NotText, Arguments, NoFiles, NotTwo}
use Rattle.distinct_messages.specs.declared.failure.Failure.TheVariants.{NoExpression, Terminal, Memory, Unreadable}
use Rattle.distinct_messages.specs.declared.failure.Failure.TheVariants.{NoSketch, NoHex, NoLine, NotWritten}

-- the exit status: 2 if the arguments are wrong, else 1
abbrev pub failure_status : Failure → ℕ
failure_status (NotText number text) = 2
failure_status (Arguments fault) = fault_status fault
failure_status NoFiles = 2
failure_status NotTwo = 2
failure_status (NoExpression text fault) = 2
failure_status Terminal = 2
failure_status _ = 1

-- the exit status if the answer was written: 1 if files were passed over with these failures, else 0
abbrev pub passed_status : List Failure → ℕ
passed_status [] = 0
passed_status (failure ∷ failures) = 1

-- whether what was read of a file, or of a line, is no image
abbrev pub is_fault : Failure → Bool
is_fault (NoSketch name line flaw) = true
is_fault (NoHex name line) = true
is_fault (NoLine name) = true
is_fault _ = false

-- One file or line is at fault, and the others can still be read: it is no image, or a file can't be read. If it is standard input
-- that can't be read, or if memory was refused, the others can't be read either.
abbrev pub IsOfOne : Failure → Type 0
IsOfOne (Unreadable name error) = (string_bytes name ≡ codes "standard input" → ⊥) × (error_kind error ≡ OutOfMemory → ⊥)
IsOfOne failure = is_fault failure ≡ true

-- standard output failed because its reader closed it
abbrev pub IsClosedOutput : Failure → Type 0
IsClosedOutput (NotWritten name error) = (string_bytes name ≡ codes "standard output") × (error_kind error ≡ BrokenPipe)
IsClosedOutput _ = ⊥

-- the name of a file in messages
abbrev pub display_name : List ℕ → List ℕ
display_name name = if bytes_eq name (codes "-") then codes "standard input" else name

-- memory was refused, or the output of this name failed, for this reason
abbrev pub ReportsNotWritten : (name : List ℕ) → Error → Failure → Type 0
ReportsNotWritten name error Memory = ⊤
ReportsNotWritten name error (NotWritten output reason) = (string_bytes output ≡ name) × (reason ≡ error)
ReportsNotWritten name error _ = ⊥

-- a file is reported to be unreadable only if files may fail
abbrev pub UnreadableIf : (may_fail : Bool) → Failure → Type 0
UnreadableIf may_fail (Unreadable name error) = may_fail ≡ true
UnreadableIf may_fail _ = ⊤

-- memory was refused, or the output of this name failed
abbrev pub IsOfWriting : (name : List ℕ) → Failure → Type 0
IsOfWriting name Memory = ⊤
IsOfWriting name (NotWritten output error) = string_bytes output ≡ name
IsOfWriting name _ = ⊥
