-- Why lines are not summed.
use Rattle.std.specs.Prelude.{ℕ, zero, suc, ◌≡◌, ◌≢◌, ◌⊎◌, ◌+◌, ◌-◌, ◌^◌, ◌≤◌, min, ⊤, Bool, true, List, ◌∷◌, ◌++◌}
use Rattle.std.specs.Prelude.{length, Option, Some, None, Result, MatchResult}
use Rattle.std.specs.IoError.{error_kind}
use Rattle.std.specs.declared.io.ErrorKind.TheVariants.{Interrupted}
use Rattle.sketch_base.specs.declared.error.ErrorKind.{ErrorKind}
use Rattle.sketch_base.specs.declared.error.ErrorKind.TheVariants.{OutOfMemory, Policy}
use Rattle.keys_lines.specs.Lines.{lines_of}
use Rattle.keys_lines.specs.declared.key.Hashing.{Hashing}
use Rattle.tuple_sketches.specs.declared.numbers.SummaryMode.{SummaryMode}
use Rattle.tuple_sketches.specs.declared.numbers.SummaryMode.TheVariants.{Sum}
use Rattle.keys_sketches.specs.Refusals.{HasFault}
use Rattle.keys_sums.specs.Amounts.{amount_in, added_by, value_in}
use Rattle.keys_sums.specs.Parts.{bytes_of, start_of}
use Rattle.keys_sums.specs.Sums.{summary_at}
use Rattle.keys_sums.specs.declared.addends.Amount.{Amount}
use Rattle.keys_sums.specs.declared.addends.Amount.TheVariants.{One}
use Rattle.keys_sums.specs.declared.summing.SumError.{SumError}
use Rattle.keys_sums.specs.declared.summing.SumError.TheVariants.{Refused, Failed, PastGreatest, NotANumber}

-- lines are not added: memory ran out, or a sum would be 2^64 or more
abbrev pub IsAddRefusal : ErrorKind → Type 0
IsAddRefusal kind = (kind ≡ OutOfMemory) ⊎ (kind ≡ Policy)

-- an error is the refusal, or that memory ran out, or that of a source or of a line, which are read only if nothing is refused
abbrev pub IsSumError : Amount → Option ErrorKind → SumError → Type 0
IsSumError amount refusal (Refused kind) = (refusal ≡ Some kind) ⊎ (kind ≡ OutOfMemory)
IsSumError amount refusal (Failed error) = refusal ≡ None
IsSumError amount refusal (PastGreatest line) = refusal ≡ None
IsSumError amount refusal (NotANumber line start) = (refusal ≡ None) × (amount ≢ One)

-- a line is reported to have no number only if it has none; its number is that behind this count of lines, and what is quoted
-- is how the part starts that should be a number
abbrev pub LacksNumber : Amount → (line : List ℕ) → (count : ℕ) → SumError → Type 0
LacksNumber amount line count (NotANumber number start) =
    (amount_in amount line ≡ None) × (number ≡ min (count + 1) (2 ^ 64 - 1)) × (bytes_of start ≡ start_of (value_in amount line))
LacksNumber amount line count sum_error = ⊤

-- a line adds no number
abbrev pub HasNoNumber : Amount → (line : List ℕ) → Type 0
HasNoNumber amount line = amount_in amount line ≡ None

-- the count of lines after this many more, which stops at 2^64 - 1
abbrev pub count_after : (count more : ℕ) → ℕ
count_after count zero = count
count_after count (suc more) = min (count_after count more + 1) (2 ^ 64 - 1)

-- the line of this number, behind this count of lines, adds no number, and the part that should be one starts with these bytes
pub record HasNoNumberBehind (amount : Amount) (count number : ℕ) (start : List ℕ) (lines : List (List ℕ)) : Type 0 where
  pub before : List (List ℕ)
  pub line : List ℕ
  pub others : List (List ℕ)
  pub parted : lines ≡ before ++ line ∷ others
  pub none : HasNoNumber amount line
  pub numbered : number ≡ count_after count (suc (length before))
  pub quoted : start ≡ start_of (value_in amount line)

-- a line is reported to have no number only if it is one of these lines, behind this count of lines, and has none
abbrev pub LacksNumberIn : Amount → (count : ℕ) → (lines : List (List ℕ)) → SumError → Type 0
LacksNumberIn amount count lines (NotANumber number start) = HasNoNumberBehind amount count number (bytes_of start) lines
LacksNumberIn amount count lines sum_error = ⊤

-- the line of this number adds no number, and the part that should be one starts with these bytes; any number above 2^64 - 1 is
-- reported as that
pub record HasNoNumberAt (amount : Amount) (number : ℕ) (start : List ℕ) (lines : List (List ℕ)) : Type 0 where
  pub before : List (List ℕ)
  pub line : List ℕ
  pub others : List (List ℕ)
  pub parted : lines ≡ before ++ line ∷ others
  pub none : HasNoNumber amount line
  pub numbered : number ≡ min (length before + 1) (2 ^ 64 - 1)
  pub quoted : start ≡ start_of (value_in amount line)

-- a line is reported to have no number only if it is the line of its number in a text, and has none
abbrev pub LacksNumberAt : Amount → (text : List ℕ) → SumError → Type 0
LacksNumberAt amount text (NotANumber number start) = HasNoNumberAt amount number (bytes_of start) (lines_of text)
LacksNumberAt amount text sum_error = ⊤

-- .. in one of these texts
abbrev pub LacksNumberOf : Amount → (texts : List (List ℕ)) → SumError → Type 0
LacksNumberOf amount texts (NotANumber number start) = HasFault (λ text. HasNoNumberAt amount number (bytes_of start) (lines_of text)) texts
LacksNumberOf amount texts sum_error = ⊤

-- the mode adds, and the sum of what the lines of some hash add is 2^64 or more
abbrev pub IsPast : SummaryMode → Hashing → (amount : List ℕ → ℕ) → (lines : List (List ℕ)) → Type 0
IsPast mode hashing amount lines = (mode ≡ Sum) × ((h : ℕ) × (2 ^ 64 ≤ summary_at Sum hashing amount lines h))

-- a sum is reported to be 2^64 or more only if the policy refused it
abbrev pub IsByPolicy : ErrorKind → SumError → Type 0
IsByPolicy kind (PastGreatest number) = kind ≡ Policy
IsByPolicy kind sum_error = ⊤

-- a sum is reported to be 2^64 or more only if a sum of these lines is
abbrev pub IsPastIn : SummaryMode → Hashing → Amount → (lines : List (List ℕ)) → SumError → Type 0
IsPastIn mode hashing amount lines (PastGreatest number) = IsPast mode hashing (added_by amount) lines
IsPastIn mode hashing amount lines sum_error = ⊤

-- a text is reported to have failed only if it may fail
abbrev pub FailsIf : (may_fail : Bool) → SumError → Type 0
FailsIf may_fail (Failed error) = may_fail ≡ true
FailsIf may_fail sum_error = ⊤

-- a failed read was not just interrupted
abbrev pub IsLastingFailure : SumError → Type 0
IsLastingFailure (Failed error) = error_kind error ≢ Interrupted
IsLastingFailure sum_error = ⊤

-- an Ok comes only if nothing is refused
abbrev pub RefusesSums : {T : Type 0} → Amount → Result T SumError → Option ErrorKind → Type 0
RefusesSums amount r refusal = MatchResult r (λ _. refusal ≡ None) (IsSumError amount refusal)
