-- Why lines have no totals.
use Rattle.std.specs.Prelude.{ℕ, ◌≡◌, ◌≢◌, ◌+◌, ◌-◌, ◌^◌, min, ⊤, Bool, true, List, None}
use Rattle.keys_lines.specs.Lines.{lines_of}
use Rattle.keys_sketches.specs.Refusals.{HasFault}
use Rattle.keys_sums.specs.Amounts.{value_in}
use Rattle.keys_sums.specs.Parts.{bytes_of, start_of}
use Rattle.keys_sums.specs.Refusals.{HasNoNumber, HasNoNumberAt}
use Rattle.keys_sums.specs.declared.addends.Amount.{Amount}
use Rattle.keys_sums.specs.declared.addends.Amount.TheVariants.{One}
use Rattle.keys_totals.specs.declared.reading.TotalError.{TotalError}
use Rattle.keys_totals.specs.declared.reading.TotalError.TheVariants.{Memory, Failed, NotANumber}

-- a line is reported to have no number only if lines should have one
abbrev pub IsTotalError : Amount → TotalError → Type 0
IsTotalError amount (NotANumber number start) = amount ≢ One
IsTotalError amount Memory = ⊤
IsTotalError amount (Failed error) = ⊤

-- .. and only if it has none; its number is that behind as many others, and what is quoted is how the part starts that should
-- be a number
abbrev pub LacksNumber : Amount → (line : List ℕ) → (passed : ℕ) → TotalError → Type 0
LacksNumber amount line passed (NotANumber number start) =
    HasNoNumber amount line × (number ≡ min (passed + 1) (2 ^ 64 - 1)) × (bytes_of start ≡ start_of (value_in amount line))
LacksNumber amount line passed Memory = ⊤
LacksNumber amount line passed (Failed error) = ⊤

-- .. only if it is the line of its number in a text
abbrev pub LacksNumberAt : Amount → (text : List ℕ) → TotalError → Type 0
LacksNumberAt amount text (NotANumber number start) = HasNoNumberAt amount number (bytes_of start) (lines_of text)
LacksNumberAt amount text Memory = ⊤
LacksNumberAt amount text (Failed error) = ⊤

-- .. in one of these texts
abbrev pub LacksNumberOf : Amount → (texts : List (List ℕ)) → TotalError → Type 0
LacksNumberOf amount texts (NotANumber number start) = HasFault (λ text. HasNoNumberAt amount number (bytes_of start) (lines_of text)) texts
LacksNumberOf amount texts Memory = ⊤
LacksNumberOf amount texts (Failed error) = ⊤

-- a text is reported to have failed only if it may fail
abbrev pub FailsIf : (may_fail : Bool) → TotalError → Type 0
FailsIf may_fail (Failed error) = may_fail ≡ true
FailsIf may_fail Memory = ⊤
FailsIf may_fail (NotANumber number start) = ⊤
