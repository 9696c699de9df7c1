-- Lines of a text that is read in pieces.
use Rattle.std.specs.Prelude.{ℕ, ◌≡◌, List, ◌++◌, length, Option, IfSome, Result, OnOk, IfErr}
use Rattle.keys_lines.specs.Lines.{lines_after, lines_of}
use Rattle.keys_lines.specs.declared.key.Hashing.{Hashing}
use Rattle.tuple_sketches.specs.declared.numbers.SummaryMode.{SummaryMode}
use Rattle.keys_sums.specs.Amounts.{IsOpenAddend}
use Rattle.keys_sums.specs.Refusals.{count_after, IsPastIn}
use Rattle.keys_sums.specs.Sums.{HasAdded, Summed}
use Rattle.keys_sums.specs.declared.addends.Amount.{Amount}
use Rattle.keys_sums.specs.declared.addends.OpenAddend.{OpenAddend}
use Rattle.keys_sums.specs.declared.summing.SumError.{SumError}

-- A piece of a text behind an open line ends these lines and leaves another open line, however the text continues.
abbrev pub Ends : (front piece : List ℕ) → (ended : List (List ℕ)) → (left : List ℕ) → Type 0
Ends front piece ended left = (more : List ℕ) → lines_after front (piece ++ more) ≡ ended ++ lines_after left more

-- a piece of a text was read: the lines that ended are added, after those before, and counted, and the open
-- line has the bytes behind them
pub record HasTaken (hashing : Hashing) (amount : Amount) (front piece : List ℕ)
    (old new : Summed) (last : OpenAddend) (count counted : ℕ) : Type 0 where
  pub ended : List (List ℕ)
  pub left : List ℕ
  pub ends : Ends front piece ended left
  pub counts : counted ≡ count_after count (length ended)
  pub is_open : IsOpenAddend hashing amount left last
  pub added : (mode : SummaryMode) (lg_k : ℕ) (lines : List (List ℕ)) → HasAdded mode hashing amount lg_k lines old →
      HasAdded mode hashing amount lg_k (lines ++ ended) new

-- if it succeeds, a call adds these lines after those that a sketch has
abbrev pub AddsLines : {T : Type 0}
    → Hashing
    → Amount
    → (more : List (List ℕ))
    → (old : Summed)
    → Result T SumError
    → (new : Summed)
    → Type 0
AddsLines hashing amount more old result new =
    (mode : SummaryMode) (lg_k : ℕ) (lines : List (List ℕ))
    → HasAdded mode hashing amount lg_k lines old
    → OnOk result (HasAdded mode hashing amount lg_k (lines ++ more) new)

-- .. the lines of a text, if it is known
abbrev pub AddsText : {T : Type 0}
    → Hashing
    → Amount
    → Option (List ℕ)
    → (old : Summed)
    → Result T SumError
    → (new : Summed)
    → Type 0
AddsText hashing amount known old result new =
    (mode : SummaryMode) (lg_k : ℕ) (lines : List (List ℕ))
    → HasAdded mode hashing amount lg_k lines old
    → IfSome known (λ text. OnOk result (HasAdded mode hashing amount lg_k (lines ++ lines_of text) new))

-- a call reports a sum to be 2^64 or more only if one of these lines and those that a sketch has is
abbrev pub ReportsPast : {T : Type 0} → Hashing → Amount → (more : List (List ℕ)) → (old : Summed) → Result T SumError → Type 0
ReportsPast hashing amount more old result =
    (mode : SummaryMode) (lg_k : ℕ) (lines : List (List ℕ))
    → HasAdded mode hashing amount lg_k lines old
    → IfErr result (IsPastIn mode hashing amount (lines ++ more))

-- .. of the lines of a text, if it is known
abbrev pub ReportsPastText : {T : Type 0} → Hashing → Amount → Option (List ℕ) → (old : Summed) → Result T SumError → Type 0
ReportsPastText hashing amount known old result =
    (mode : SummaryMode) (lg_k : ℕ) (lines : List (List ℕ))
    → HasAdded mode hashing amount lg_k lines old
    → IfSome known (λ text. IfErr result (IsPastIn mode hashing amount (lines ++ lines_of text)))
