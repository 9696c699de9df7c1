-- What `count` and `show` print of sketches, by the options.
use Rattle.std.specs.Prelude.{ℕ, ◌++◌, true, false, List, [], None, Some, unwrap_or, is_some, if◌then◌else◌}
use Rattle.core_compact.specs.CompactState.{Compact}
use Rattle.estimates.specs.Bounds.{deviation_count}
use Rattle.estimates.specs.declared.bounds.Deviations.{Deviations}
use Rattle.estimates.specs.declared.bounds.Deviations.TheVariants.{Two}
use Rattle.keys_reports.specs.declared.report.Report.{Report}
use Rattle.keys_reports.specs.Reports.{report_of}
use Rattle.keys_reports.specs.Human.{human_count, human_line}
use Rattle.keys_reports.specs.Forms.{count_line, count_numbers, json_line, named_line, shown_line, tsv_head, tsv_row}
use Rattle.distinct_arguments.specs.Settings.{OptionValues}
use Rattle.distinct_arguments.specs.declared.options.Form.{Form}
use Rattle.distinct_arguments.specs.declared.options.Form.TheVariants.{Plain, Tsv, Json}

-- the standard deviations of bounds: those of `--bounds`, or two
abbrev pub chosen_deviations : OptionValues → Deviations
chosen_deviations options = unwrap_or options.bounds Two

-- the report of a sketch, with bounds of these standard deviations
abbrev pub report_by : OptionValues → Compact ℕ → Report
report_by options s = report_of (deviation_count (chosen_deviations options)) s

-- the line of a count: for people, or of bare numbers, with bounds if they are chosen
abbrev pub counted_line : OptionValues → Report → List ℕ
counted_line options report = if options.human then human_line report else count_line (is_some options.bounds) report

-- what `count` prints of a report, whose line in plain text is this one
abbrev pub counted_in : Form → (line : List ℕ) → Report → List ℕ
counted_in Plain line report = line
counted_in Tsv line report = tsv_head false ++ tsv_row None report
counted_in Json line report = json_line None report

-- what `count` prints of a sketch
abbrev pub count_text : OptionValues → Compact ℕ → List ℕ
count_text options s = counted_in options.form (counted_line options (report_by options s)) (report_by options s)

-- the line of a count with a name behind it
abbrev pub named_counted_line : OptionValues → (name : List ℕ) → Report → List ℕ
named_counted_line options name report =
    if options.human then named_line (human_count report) name else named_line (count_numbers (is_some options.bounds) report) name

-- what `count` prints of a file's report, whose line in plain text is this one
abbrev pub file_counted_in : Form → (line name : List ℕ) → Report → List ℕ
file_counted_in Plain line name report = line
file_counted_in Tsv line name report = tsv_row (Some name) report
file_counted_in Json line name report = json_line (Some name) report

-- what `count` prints of the sketch of a file of this name, each file counted by itself
abbrev pub file_count_text : OptionValues → (name : List ℕ) → Compact ℕ → List ℕ
file_count_text options name s = file_counted_in options.form (named_counted_line options name (report_by options s)) name (report_by options s)

-- what `show` prints before all sketches
abbrev pub head_of : Form → List ℕ
head_of Plain = []
head_of Tsv = tsv_head true
head_of Json = []

-- what `show` prints of a report
abbrev pub shown_in : Form → (name : List ℕ) → Report → List ℕ
shown_in Plain name report = shown_line name report
shown_in Tsv name report = tsv_row (Some name) report
shown_in Json name report = json_line (Some name) report

-- what `show` prints of a sketch under a name
abbrev pub shown_text : OptionValues → (name : List ℕ) → Compact ℕ → List ℕ
shown_text options name s = shown_in options.form name (report_by options s)
