-- The lines that are written of the values of a stream that occur from some number of times to another. Each ends in an
-- LF.
use Rattle.std.specs.Prelude.{ℕ, ◌++◌, ◌==◌, Bool, false, List, [], None, codes, decimal, if◌then◌else◌}
use Rattle.keys_reports.specs.Forms.{count_line, json_fields, tsv_head, tsv_row}
use Rattle.keys_reports.specs.declared.report.Report.{Report}

-- a range of numbers: one number if its ends are equal
abbrev pub range_text : (least greatest : ℕ) → List ℕ
range_text least greatest = decimal least ++ (if least == greatest then [] else codes " to " ++ decimal greatest)

-- the line of a range: its numbers, and the count of a report
abbrev pub range_line : (with_bounds : Bool) → (least greatest : ℕ) → Report → List ℕ
range_line with_bounds least greatest r = range_text least greatest ++ codes ": " ++ count_line with_bounds r

-- the names of a table's columns, with tabs between them
abbrev pub range_tsv_head : List ℕ
range_tsv_head = codes "from\tto\t" ++ tsv_head false

-- the row of a range in a table
abbrev pub range_tsv_row : (least greatest : ℕ) → Report → List ℕ
range_tsv_row least greatest r = decimal least ++ codes "\t" ++ decimal greatest ++ codes "\t" ++ tsv_row None r

-- a range as a JSON object, on a line
abbrev pub range_json_line : (least greatest : ℕ) → Report → List ℕ
range_json_line least greatest r =
    codes "{\"from\":" ++ decimal least
    ++ codes ",\"to\":" ++ decimal greatest
    ++ codes "," ++ json_fields r
    ++ codes "}\n"
