-- The lines that are written of a report. Each ends in an LF.
use Rattle.std.specs.Prelude.{◌++◌, Bool, List, [], ℕ, Option, None, Some, codes, decimal, if◌then◌else◌}
use Rattle.keys_reports.specs.declared.report.Report.{Report}
use Rattle.keys_reports.specs.Names.{escaped_bytes, escaped_name, json_string}

-- the line of a count: the estimate, and with bounds the lower and the upper one
abbrev pub count_line : (with_bounds : Bool) → Report → List ℕ
count_line with_bounds r =
    decimal r.estimate
    ++ (if with_bounds then codes " " ++ decimal r.interval.lower ++ codes " " ++ decimal r.interval.upper else [])
    ++ codes "\n"

-- the numbers of a count: the estimate, and with bounds the lower and the upper one
abbrev pub count_numbers : (with_bounds : Bool) → Report → List ℕ
count_numbers with_bounds r =
    decimal r.estimate ++ (if with_bounds then codes " " ++ decimal r.interval.lower ++ codes " " ++ decimal r.interval.upper else [])

-- the line of a count with a name behind it
abbrev pub named_line : (numbers name : List ℕ) → List ℕ
named_line numbers name = numbers ++ (codes "\t" ++ escaped_name name ++ codes "\n")

-- the estimate and how near it is
abbrev pub shown_estimate : Report → List ℕ
shown_estimate r =
    decimal r.estimate
    ++ (if r.exact then codes " exact"
    else codes " estimated, from " ++ decimal r.interval.lower ++ codes " to " ++ decimal r.interval.upper)

-- the line that shows a report
abbrev pub shown_line : (name : List ℕ) → Report → List ℕ
shown_line name r =
    escaped_name name
    ++ codes ": " ++ shown_estimate r
    ++ codes ", retained " ++ decimal r.retained
    ++ codes ", theta " ++ decimal r.theta
    ++ codes "\n"

-- a truth value in a table and in JSON
abbrev pub truth : Bool → List ℕ
truth b = if b then codes "true" else codes "false"

-- the names of a table's columns, with tabs between them
abbrev pub tsv_head : (named : Bool) → List ℕ
tsv_head named =
    (if named then codes "name\t" else []) ++ codes "estimate\tlower\tupper\texact\tretained\ttheta\n"

-- the name of a row and the tab after it, if there is a name
abbrev pub tsv_name : Option (List ℕ) → List ℕ
tsv_name None = []
tsv_name (Some name) = escaped_bytes name ++ codes "\t"

-- the values of a report in a table, and the end of their row
abbrev pub tsv_values : Report → List ℕ
tsv_values r =
    decimal r.estimate
    ++ (codes "\t" ++ decimal r.interval.lower
    ++ codes "\t" ++ decimal r.interval.upper
    ++ codes "\t" ++ truth r.exact
    ++ codes "\t" ++ decimal r.retained
    ++ codes "\t" ++ decimal r.theta
    ++ codes "\n")

-- the row of a report in a table
abbrev pub tsv_row : Option (List ℕ) → Report → List ℕ
tsv_row name r = tsv_name name ++ tsv_values r

-- the beginning of a JSON object: its brace, and the field of a name with a comma if there is a name
abbrev pub json_head : Option (List ℕ) → List ℕ
json_head None = codes "{"
json_head (Some name) = codes "{\"name\":" ++ json_string name ++ codes ","

-- the fields of a report in a JSON object
abbrev pub json_fields : Report → List ℕ
json_fields r =
    codes "\"estimate\":" ++ (decimal r.estimate
    ++ codes ",\"lower\":" ++ decimal r.interval.lower
    ++ codes ",\"upper\":" ++ decimal r.interval.upper
    ++ codes ",\"exact\":" ++ truth r.exact
    ++ codes ",\"retained\":" ++ decimal r.retained
    ++ codes ",\"theta\":" ++ decimal r.theta)

-- a report as a JSON object, on a line
abbrev pub json_line : Option (List ℕ) → Report → List ℕ
json_line name r = json_head name ++ json_fields r ++ codes "}\n"

-- ---- a total under a name

-- the line of a total: its name as it is, a tab and the number
abbrev pub named_total_line : (name : List ℕ) → (total : ℕ) → List ℕ
named_total_line name total = name ++ (codes "\t" ++ decimal total ++ codes "\n")

-- the names of a table's columns, with a tab between them
abbrev pub named_total_tsv_head : List ℕ
named_total_tsv_head = codes "name\ttotal\n"

-- the row of a total in a table
abbrev pub named_total_tsv_row : (name : List ℕ) → (total : ℕ) → List ℕ
named_total_tsv_row name total = tsv_name (Some name) ++ (decimal total ++ codes "\n")

-- a total as a JSON object, on a line
abbrev pub named_total_json_line : (name : List ℕ) → (total : ℕ) → List ℕ
named_total_json_line name total = json_head (Some name) ++ (codes "\"total\":" ++ decimal total) ++ codes "}\n"
