-- Lines that add no number, among those of a text and of texts.
use Rattle.std.proofs.Common.{ℕ, ◌≡◌, ◌+◌, ◌-◌, ◌^◌, min, length, true, List, [], ◌∷◌, ◌++◌, Option, Some, None, sym, ap, ◌∙◌}
use Rattle.std.specs.Prelude.{IfSome}
use Rattle.keys_lines.specs.Lines.{lines_of}
use Rattle.keys_sketches.specs.Refusals.{HasFault}
use Rattle.keys_sums.specs.declared.addends.Amount.{Amount}
use Rattle.keys_groups.specs.Groups.{without_lf}
use Rattle.keys_groups.specs.Reading.{ReadsLine, ContinuesLines}
use Rattle.keys_totals.specs.Refusals.{LacksNumber, LacksNumberAt, LacksNumberOf}
use Rattle.keys_totals.specs.declared.reading.TotalError.{TotalError}
use Rattle.keys_totals.specs.declared.reading.TotalError.TheVariants.{Memory, Failed, NotANumber}

-- the line behind as many others is that of its number
lacking_at : (amount : Amount) (passed : ℕ) (text line : List ℕ) (before others : List (List ℕ)) (reason : TotalError) → lines_of text ≡ before ++ line ∷ others → length before ≡ passed → LacksNumber amount line passed reason → LacksNumberAt amount text reason
lacking_at amount passed text line before others Memory parted counted lacking = tt
lacking_at amount passed text line before others (Failed error) parted counted lacking = tt
lacking_at amount passed text line before others (NotANumber number start) parted counted lacking = record {
  before = before;
  line = line;
  others = others;
  parted = parted;
  none = lacking.0;
  numbered = lacking.1 ∙ ap (λ (n : ℕ). min (n + 1) (2 ^ 64 - 1)) (sym counted);
  quoted = lacking.2;
}

-- the line that was read last is behind as many others
pub lacking_last : (amount : Amount) (passed : ℕ) (old now new : Option (List ℕ)) (bytes : List ℕ) (reason : TotalError) → ContinuesLines old now (λ lines. length lines ≡ passed) → ReadsLine now new bytes true →
    LacksNumber amount (without_lf bytes) passed reason → IfSome old (λ text. LacksNumberAt amount text reason)
lacking_last amount passed None now new bytes reason so_far read lacking = tt
lacking_last amount passed (Some text) None new bytes reason so_far read lacking = absurd so_far
lacking_last amount passed (Some text) (Some left) new bytes reason so_far read lacking =
    lacking_at amount passed text (without_lf bytes) so_far.0 (lines_of read.0) reason (so_far.1 ∙ ap (λ ls. so_far.0 ++ ls) read.2) so_far.2 lacking

-- one of the texts has such a line
pub lacking_texts : (amount : Amount) (reason : TotalError) (texts : List (List ℕ)) → HasFault (λ text. LacksNumberAt amount text reason) texts → LacksNumberOf amount texts reason
lacking_texts amount Memory texts fault = tt
lacking_texts amount (Failed error) texts fault = tt
lacking_texts amount (NotANumber number start) texts fault = fault
