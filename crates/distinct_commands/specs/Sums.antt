-- The sums of lines, or the least or the greatest numbers: their images, and what `sum` prints.
use Rattle.std.specs.Prelude.{ℕ, ◌≡◌, ◌++◌, List, min, Option, Some, None}
use Rattle.sketch_base.specs.Seed.{seed_hash}
use Rattle.core_compact.specs.CompactState.{Compact}
use Rattle.core_slots.specs.declared.entry.TupleEntry.{TupleEntry}
use Rattle.tuple_sketches.specs.declared.numbers.SummaryMode.{SummaryMode}
use Rattle.tuple_sketches.specs.declared.numbers.SummaryMode.TheVariants.{Sum}
use Rattle.keys_lines.specs.Lines.{lines_of_all}
use Rattle.keys_lines.specs.declared.key.Key.{Key}
use Rattle.keys_sums.specs.Amounts.{added_by, AreNumbers}
use Rattle.keys_sums.specs.Images.{written_sums, ReadsSums}
use Rattle.keys_sums.specs.Sums.{sketch_of_sums, total_added, GREATEST_TOTAL}
use Rattle.keys_sums.specs.declared.addends.Amount.{Amount}
use Rattle.keys_sums.specs.declared.addends.Amount.TheVariants.{Number}
use Rattle.estimates.specs.Bounds.{deviation_count}
use Rattle.estimates.specs.declared.bounds.Interval.{Interval}
use Rattle.totals.specs.Bounds.{total_bounds}
use Rattle.totals.specs.Forms.{total_json_line, total_line, total_tsv_head, total_tsv_row}
use Rattle.totals.specs.Forms.{lines_total_json_line, lines_total_line, lines_total_tsv_head, lines_total_tsv_row}
use Rattle.totals.specs.Totals.{lines_total, total_of}
use Rattle.totals.specs.declared.total.LinesTotal.{LinesTotal}
use Rattle.totals.specs.declared.total.Total.{Total}
use Rattle.distinct_arguments.specs.Settings.{OptionValues}
use Rattle.distinct_arguments.specs.declared.options.Form.{Form}
use Rattle.distinct_arguments.specs.declared.options.Form.TheVariants.{Plain, Tsv, Json}
use Rattle.distinct_inputs.specs.Failures.{chosen_hashing, chosen_summary}
use Rattle.distinct_inputs.specs.Images.{in_form}
use Rattle.distinct_commands.specs.Texts.{chosen_deviations}

-- the sketch of the lines of all texts, each retained hash with the sum, the least or the greatest of what its lines add, with
-- the key and the size that the options set
abbrev pub sums_of : SummaryMode → OptionValues → Amount → (seed : ℕ) → (texts : List (List ℕ)) → Compact (TupleEntry ℕ)
sums_of mode options amount seed texts = sketch_of_sums mode (chosen_hashing options seed) (added_by amount) options.lg_k (lines_of_all texts)

-- the image of the sums of what the lines of texts add, combined as the options say, which is read again; each line of all texts
-- adds a number
pub record IsSumsImageOf (amount : Amount) (options : OptionValues) (seed : ℕ) (texts : List (List ℕ)) (image : List ℕ) : Type 0 where
  pub numbers : AreNumbers amount (lines_of_all texts)
  pub written : image ≡ written_sums (sums_of (chosen_summary options) options amount seed texts)
  pub reads : ReadsSums image (seed_hash seed) (sums_of (chosen_summary options) options amount seed texts)

-- what `sketch` writes of these sums
abbrev pub IsSumsText : Amount → OptionValues → (seed : ℕ) → (texts : List (List ℕ)) → List ℕ → Type 0
IsSumsText amount options seed texts out = (image : List ℕ) × IsSumsImageOf amount options seed texts image × (out ≡ in_form options.hex image)

-- what is printed of a total and its bounds
abbrev pub totalled_in : Form → Total → Interval → List ℕ
totalled_in Plain total bounds = total_line total bounds
totalled_in Tsv total bounds = total_tsv_head ++ total_tsv_row total bounds
totalled_in Json total bounds = total_json_line total bounds

-- what `eval` prints of a sketch of sums: its total, with bounds of the standard deviations that are chosen
abbrev pub total_text : OptionValues → Compact (TupleEntry ℕ) → List ℕ
total_text options s = totalled_in options.form (total_of s) (total_bounds (deviation_count (chosen_deviations options)) s)

-- what is printed of the total of lines
abbrev pub lines_totalled_in : Form → LinesTotal → List ℕ
lines_totalled_in Plain total = lines_total_line total
lines_totalled_in Tsv total = lines_total_tsv_head ++ lines_total_tsv_row total
lines_totalled_in Json total = lines_total_json_line total

-- the exact total of what the lines of texts add, up to the greatest that is counted
abbrev pub exact_total : Amount → (texts : List (List ℕ)) → ℕ
exact_total amount texts = min (total_added (added_by amount) (lines_of_all texts)) GREATEST_TOTAL

-- what `sum` prints of texts, by the part of a line that has its number: each line of all texts has one, and the total
-- is theirs, whatever the sketch retains
abbrev pub IsTotalText : (value : Option Key) → OptionValues → (seed : ℕ) → (texts : List (List ℕ)) → List ℕ → Type 0
IsTotalText None options seed texts out = ⊥
IsTotalText (Some field) options seed texts out =
    AreNumbers (Number field) (lines_of_all texts)
    × (out ≡ lines_totalled_in options.form (lines_total (sums_of Sum options (Number field) seed texts) (exact_total (Number field) texts)))
