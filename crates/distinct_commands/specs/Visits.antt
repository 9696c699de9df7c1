-- What `visits` prints.
use Rattle.std.specs.Prelude.{ℕ, zero, suc, ◌≡◌, ◌++◌, nat_le, Bool, true, false, List, [], is_some, if◌then◌else◌}
use Rattle.core_compact.specs.CompactState.{Compact}
use Rattle.core_slots.specs.declared.entry.TupleEntry.{TupleEntry}
use Rattle.tuple_sketches.specs.declared.numbers.SummaryMode.TheVariants.{Sum}
use Rattle.keys_lines.specs.Keys.{hashing_of}
use Rattle.keys_lines.specs.Lines.{lines_of_all}
use Rattle.keys_lines.specs.declared.key.Key.{Key}
use Rattle.keys_sums.specs.Bins.{least_of, greatest_of, greatest, sums_in, keys_in}
use Rattle.keys_sums.specs.Images.{AreImagesOfTexts}
use Rattle.keys_sums.specs.Sums.{one_each, sketch_of_sums}
use Rattle.keys_sums.specs.Unions.{IsUnitedSums}
use Rattle.keys_sums.specs.declared.bins.TheConstants.{BINS}
use Rattle.keys_reports.specs.Ranges.{range_json_line, range_line, range_tsv_head, range_tsv_row}
use Rattle.keys_reports.specs.declared.report.Report.{Report}
use Rattle.distinct_arguments.specs.Settings.{OptionValues}
use Rattle.distinct_arguments.specs.declared.options.Form.{Form}
use Rattle.distinct_arguments.specs.declared.options.Form.TheVariants.{Plain, Tsv, Json}
use Rattle.distinct_inputs.specs.Failures.{chosen_hashing}
use Rattle.distinct_inputs.specs.Images.{images_of}
use Rattle.distinct_commands.specs.Texts.{report_by}

-- the sketch of the lines of all texts, each retained hash with the number of its lines, with the key and the size that
-- the options set
abbrev pub visits_of : OptionValues → (seed : ℕ) → (texts : List (List ℕ)) → Compact (TupleEntry ℕ)
visits_of options seed texts = sketch_of_sums Sum (chosen_hashing options seed) one_each options.lg_k (lines_of_all texts)

-- what is printed before all ranges
abbrev pub ranges_head : Form → List ℕ
ranges_head Plain = []
ranges_head Tsv = range_tsv_head
ranges_head Json = []

-- what is printed of a range of numbers and a report
abbrev pub ranged_in : Form → (with_bounds : Bool) → (least greatest : ℕ) → Report → List ℕ
ranged_in Plain with_bounds least most report = range_line with_bounds least most report
ranged_in Tsv with_bounds least most report = range_tsv_row least most report
ranged_in Json with_bounds least most report = range_json_line least most report

-- what is printed of the keys whose sums are in a bin
abbrev pub bin_text : OptionValues → Compact (TupleEntry ℕ) → (bin : ℕ) → List ℕ
bin_text options s bin =
    ranged_in options.form (is_some options.bounds) (least_of bin) (greatest_of bin) (report_by options (keys_in bin s))

-- .. if the bin is not above a greatest sum
abbrev pub bin_up_to : OptionValues → Compact (TupleEntry ℕ) → (most bin : ℕ) → List ℕ
bin_up_to options s most bin = if nat_le (least_of bin) most then bin_text options s bin else []

-- what is printed of the first bins, up to that of a greatest sum
abbrev pub bins_text : OptionValues → Compact (TupleEntry ℕ) → (most count : ℕ) → List ℕ
bins_text options s most zero = []
bins_text options s most (suc bin) = bins_text options s most bin ++ bin_up_to options s most bin

-- What `visits` prints of a sketch of sums. Each sum from 1 to 2^64 - 1 is in exactly one bin below `BINS` (IsInOneBin), by a law
-- of keys_sums.
unfoldable pub visits_text : OptionValues → Compact (TupleEntry ℕ) → List ℕ
visits_text options s = ranges_head options.form ++ bins_text options s (greatest (sums_in s)) BINS

-- What `visits` prints of images of sums, that of the union of their sketches. If they are the images of the numbers of
-- lines of texts that were sketched apart, by one key and with this seed and at least this size, it is what is printed
-- of all their lines.
pub record IsVisitsOfImages (options : OptionValues) (seed : ℕ) (images : List (List ℕ)) (out : List ℕ) : Type 0 where
  pub sums : Compact (TupleEntry ℕ)
  pub united : IsUnitedSums Sum seed options.lg_k images sums
  pub text : out ≡ visits_text options sums
  pub apart : (key : Key) (texts : List (List ℕ)) → AreImagesOfTexts Sum (hashing_of key seed) one_each options.lg_k images texts →
      out ≡ visits_text options (sketch_of_sums Sum (hashing_of key seed) one_each options.lg_k (lines_of_all texts))

-- what `visits` prints of texts: of their lines, or of the images of sums in them
abbrev pub IsVisitsText : (sums : Bool) → OptionValues → (seed : ℕ) → (texts : List (List ℕ)) → List ℕ → Type 0
IsVisitsText false options seed texts out = out ≡ visits_text options (visits_of options seed texts)
IsVisitsText true options seed texts out = IsVisitsOfImages options seed (images_of true options.hex texts) out
